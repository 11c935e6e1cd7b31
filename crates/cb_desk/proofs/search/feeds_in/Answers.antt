use Rattle.std.proofs.Common.{◌∙◌, ap, length}
use Rattle.cb_desk.proofs.FeedsCounted.{places-counted}
use Rattle.cb_desk.proofs.search.feeds_in.Goals as goal

pub returns : goal.returns
returns c =
    c.count.ensures ∙ ap length c.memchr_iter.ensures.value ∙ places-counted 10 c.args.bytes.now
