-- A lane is set where its byte is a line feed, and the bits that are set are counted.
use Rattle.std.proofs.Common.{◌∙◌, ap, arith, count_ones, take, w8}
use Rattle.std.proofs.lemmas.Simd.{bitmask_splat, length-chunk, ones-mask_l}
use Rattle.std.specs.Prelude.{◌==◌}
use Rattle.cb_scan.specs.steps.Lined.{is_feed}
use Rattle.cb_scan.proofs.lex.lanes.feed_lanes.Goals as goal

pub returns : goal.returns
returns c =
    let v = take 16 c.args.text.now in
    let long = length-chunk 0 16 c.args.text.now c.requires in
    ap count_ones (bitmask_splat w8 (λ a b. a == b) v 16 10 long (omega arith)) ∙ ones-mask_l is_feed v
