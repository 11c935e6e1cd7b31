-- A body that is read or passed over is the next bytes of the stream.
use Rattle.std.proofs.Common.{◌≡◌, ℕ, ◌+◌, ◌≤◌, List, [], ◌∷◌, ◌++◌, length}
use Rattle.std.proofs.Common.{take, drop, Some, Ok, sym, ap, ◌∙◌, arith}
use Rattle.std.proofs.Common.{length-append}
use Rattle.std.proofs.Math.Seq.{take-append_seam, drop-append_seam}
use Rattle.cb_tags.specs.Readers.{Reader, GivesByte, HasRead}
use Rattle.cb_tags.proofs.Follows.{HasRead-byte, HasRead-trans}

-- bytes at the front are as many as are taken and dropped
module _ (read rest : List ℕ) (count : ℕ) (all : length read ≡ count) where
  front : take count (read ++ rest) ≡ read
  front = ap (λ m. take m (read ++ rest)) (sym all) ∙ take-append_seam read rest

  back : drop count (read ++ rest) ≡ rest
  back = ap (λ m. drop m (read ++ rest)) (sym all) ∙ drop-append_seam read rest

  within : count ≤ length (read ++ rest)
  within = omega (arith, length-append read rest)

-- bytes that were passed over
pub record Skipped (old new : Reader) (count : ℕ) : Type 0 where
  pub bytes : List ℕ
  pub taken : HasRead old new bytes
  pub all : length bytes ≡ count

pub Skipped-byte : (old mid new : Reader) (count b : ℕ) → Skipped old mid count
    → GivesByte mid new (Ok (Some b)) → Skipped old new (count + 1)
Skipped-byte old mid new count b s k = record {
  bytes = s.bytes ++ b ∷ [];
  taken = HasRead-trans old mid new s.bytes (b ∷ []) s.taken (HasRead-byte mid new b k);
  all = omega (arith, length-append s.bytes (b ∷ []), s.all);
}
