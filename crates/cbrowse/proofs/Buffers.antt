-- Readers and writers with buffers that are empty.
use Rattle.std.proofs.Common.{◌≡◌, ◌∙◌, ◌==◌, ℕ, List, [], Option, None, Some, ap, append-nil, refl}
use Rattle.std.specs.Prelude.{if◌then◌else◌}
use Rattle.std.specs.Io.Buffered.{reader_buffer, reader_capacity, reader_inner, reader_remaining}
use Rattle.std.specs.Io.Buffered.{writer_buffer, writer_contents, writer_inner}
use Rattle.std.specs.Io.KnownBytes.{append_known, prepend_known}
use Rattle.std.specs.declared.io.buffered.BufReader.{BufReader}
use Rattle.std.specs.declared.io.buffered.BufWriter.{BufWriter}

nothing-before : (o : Option (List ℕ)) → prepend_known [] o ≡ o
nothing-before None = refl
nothing-before (Some bytes) = refl

nothing-behind : (o : Option (List ℕ)) → append_known o [] ≡ o
nothing-behind None = refl
nothing-behind (Some bytes) = ap Some (append-nil bytes)

-- what is left of the reader behind it is left
pub behind-buffer : {T A : Type 0} (remaining : T → Option (List ℕ)) (r : BufReader T A) (input : T)
    → reader_inner r ≡ input → reader_buffer r ≡ [] → reader_capacity r ≡ 8192
    → reader_remaining remaining r ≡ remaining input
behind-buffer remaining r input inner empty capacity =
    ap (λ n. if n == 0 then None else prepend_known (reader_buffer r) (remaining r.inner)) capacity
    ∙ ap (λ bytes. prepend_known bytes (remaining r.inner)) empty
    ∙ nothing-before (remaining r.inner) ∙ ap remaining inner

-- the writer has what the one before it has
pub before-buffer : {T A : Type 0} (contents : T → Option (List ℕ)) (w : BufWriter T A) (output : T)
    → writer_inner w ≡ output → writer_buffer w ≡ []
    → writer_contents contents w ≡ contents output
before-buffer contents w output inner empty =
    ap (append_known (contents w.inner)) empty ∙ nothing-behind (contents w.inner)
    ∙ ap contents inner
