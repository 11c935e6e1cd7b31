-- No more bytes than those that are spaces and tabs.
use Rattle.std.proofs.Common.{◌≤◌, arith}
use Rattle.std.proofs.lemmas.Bool.{leb-true}
use Rattle.cb_scan.proofs.BlankRun.{no_feed_in}
use Rattle.cb_scan.proofs.lex.lined.are_spaces.Goals as goal

pub returns-then-text-ge-LANES : goal.returns-then-text-ge-LANES
returns-then-text-ge-LANES c = λ is.
    let le : c.args.len ≤ c.space_run.result = leb-true c.args.len c.space_run.result is in
    no_feed_in c.args.text.now c.args.len 16 (omega (arith, le, c.space_run.ensures))
