use Rattle.cb_tags.specs.TagLines.{listing_line}
use Rattle.cb_session.proofs.Puts.{Written}
use Rattle.cb_session.proofs.tags.put_listing_file.Given as goal

abbrev pub invariant-loop-row : goal.invariant-loop-row
invariant-loop-row g l = Written listing_line l.fn.out l.out l.row-iterator l.fn.rows
