-- What a plain command says of its arguments.
use Rattle.std.proofs.Common.{◌≡◌, refl, Bool, true, false, not, ◌&&◌}

-- the third of the tests that a plain command passes
pub third-false : (a b c d : Bool) → a && (b && (not c && d)) ≡ true → c ≡ false
third-false true true false d e = refl
third-false true true true d e = cc
third-false true false c d e = cc
third-false false b c d e = cc
