-- A cell's number does not wrap, since its parts are bytes. Assumes nothing.
use Prim.Native.Nat.{ℕ, ◌+◌, ◌*◌, ◌<◌, ◌≤◌}
use native.Mathlib.Nat.{mul-le-mul}
use native.Mathlib.Omega.{arith}

-- a row and a place in it
pub cell_small : {a b c : ℕ} (A : ℕ) → a ≤ A → b < 256 → c < 256 → a * b + c ≤ A * 255 + 255
cell_small {a} {b} {c} A i j k =
    let x : b ≤ 255 = omega arith in
    let y : a * b ≤ A * 255 = mul-le-mul i x in
    omega arith
