use Rattle.std.proofs.Common.{rules, ◌≡◌, ◌++◌, ◌∷◌, [], true, false}
use Rattle.cb_desk.specs.declared.edits.Step.TheVariants.{Keep, Take, Put}
use Rattle.cb_desk.specs.steps.Edits.{IsFirstStep}
use Rattle.cb_desk.proofs.EditLemmas.{goes_kept, goes_taken, goes_put, goes_last, shorter}
use Rattle.cb_desk.proofs.edits.each_difference.Goals as goal

pub loop-step-preserved-in-Keep : goal.loop-step-preserved-in-Keep
loop-step-preserved-in-Keep c =
    let first : IsFirstStep Keep c.loop-step.olds.now c.loop-step.news.now =
    rw c.in-Keep.is at c.in-Some.ensures in
    let goes = goes_kept _ _ first.0 _ _ _ _ first.1 first.2 c.loop-step.invariant.goes in
    rw (c.without_first-olds.ensures, c.without_first-news.ensures)
    record { goes = goes; room = shorter first.0 _ _ _ first.1 c.loop-step.invariant.room }

pub loop-step-preserved-in-Take : goal.loop-step-preserved-in-Take
loop-step-preserved-in-Take c =
    let first : IsFirstStep (Take c.in-Take.place) c.loop-step.olds.now c.loop-step.news.now =
    rw c.in-Take.is at c.in-Some.ensures in
    let goes = goes_taken _ _ c.in-Take.place _ _ _ _ first c.loop-step.invariant.goes in
    let edits : c.push.new.self.items ≡ c.loop-step.edits.items
    ++ record { kept = c.loop-step.kept; place = c.in-Take.place; is_put = false } ∷ [] =
    search rules in
    rw (c.without_first-olds-in-Take.ensures, edits) record { goes = goes; room = search rules }

pub loop-step-preserved : goal.loop-step-preserved
loop-step-preserved c =
    let first : IsFirstStep (Put c.in-Put.place) c.loop-step.olds.now c.loop-step.news.now =
    rw c.in-Put.is at c.in-Some.ensures in
    let goes = goes_put _ _ c.in-Put.place _ _ _ _ first c.loop-step.invariant.goes in
    let edits : c.push-in-Put.new.self.items ≡ c.loop-step.edits.items
    ++ record { kept = c.loop-step.kept; place = c.in-Put.place; is_put = true } ∷ [] =
    search rules in
    rw (c.without_first-news-in-Put.ensures, edits) record { goes = goes; room = search rules }

pub returns : goal.returns
returns c =
    goes_last _ _ _ _ _ _ (rw c.in_default.is at c.first_step.ensures) c.loop-step.invariant.goes
