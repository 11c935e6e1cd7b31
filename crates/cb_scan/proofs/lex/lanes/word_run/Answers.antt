-- A lane stops where its byte is no letter, no digit and no `_`: this is computed for each byte.
use Rattle.std.proofs.Common.{◌∙◌, ℕ, leb, cond, bit_and, refl, take}
use Rattle.std.proofs.lemmas.Simd.{length-chunk, splat_is_map, zip2_of_maps, zip2_splat}
use Rattle.cb_scan.specs.lex.Lexeme.{is_word}
use Rattle.cb_scan.proofs.WordRun.{run_passes}
use Rattle.cb_scan.proofs.lex.lanes.word_run.Goals as goal

pub returns : goal.returns
returns c =
    let v = take 16 c.args.text.now in
    let long = length-chunk 0 16 c.args.text.now c.requires in
    let from = λ (y : ℕ). splat_is_map v 16 y long in
    let lower = zip2_splat {Y = ℕ} _ v 16 32 long in
    let not_letter = zip2_of_maps (λ a b. cond (leb a b) 255 0) _ _ v (from 26)
    (zip2_of_maps _ _ _ v lower (from 97)) in
    let not_digit = zip2_of_maps (λ a b. cond (leb a b) 255 0) _ _ v (from 10) (zip2_splat {Y = ℕ} _ v 16 48 long) in
    c.first_set.ensures
    ∙ run_passes is_word c.args.text.now _ _ c.type_inv.text long
    (zip2_of_maps bit_and _ _ v (zip2_of_maps bit_and _ _ v not_letter not_digit)
    (zip2_splat {Y = ℕ} _ v 16 95 long)) refl
