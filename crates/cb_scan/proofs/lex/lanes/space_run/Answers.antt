-- A lane stops where its byte is no space and no tab: this is computed for each byte.
use Rattle.std.proofs.Common.{◌∙◌, ℕ, bit_and, refl, take}
use Rattle.std.proofs.lemmas.Simd.{length-chunk, zip2_of_maps, zip2_splat}
use Rattle.cb_scan.specs.steps.Lanes.{is_space}
use Rattle.cb_scan.proofs.WordRun.{run_passes}
use Rattle.cb_scan.proofs.lex.lanes.space_run.Goals as goal

pub returns : goal.returns
returns c =
    let v = take 16 c.args.text.now in
    let long = length-chunk 0 16 c.args.text.now c.requires in
    c.first_set.ensures
    ∙ run_passes is_space c.args.text.now _ _ c.type_inv.text long
    (zip2_of_maps bit_and _ _ v (zip2_splat {Y = ℕ} _ v 16 32 long) (zip2_splat {Y = ℕ} _ v 16 9 long)) refl
