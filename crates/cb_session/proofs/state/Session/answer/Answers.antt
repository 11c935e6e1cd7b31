use Rattle.std.proofs.Common.{◌∙◌, ap}
use Rattle.cb_session.specs.Models.{command_of, request_of}
use Rattle.cb_session.proofs.Outcomes.{Does-asked, Does-listing, Does-marks, Does-nothing}
use Rattle.cb_session.proofs.Outcomes.{Does-query, Does-quit, Does-rebuild, Does-redo, Does-refused}
use Rattle.cb_session.proofs.Outcomes.{Does-stack, Does-tags, Does-undo}
use Rattle.cb_session.proofs.state.Session.answer.Goals as goal

pub returns-in-Nothing : goal.returns-in-Nothing
returns-in-Nothing g c = Does-nothing {A = Unit {0}} _ _ _ tt (ap request_of c.in-Nothing.is)

pub returns-in-End : goal.returns-in-End
returns-in-End g c = Does-quit {A = Unit {0}} _ _ _ tt (ap request_of c.in-End.is)

pub returns-in-Refused : goal.returns-in-Refused
returns-in-Refused g c =
    Does-refused _ _ _ _ _ _ (ap request_of c.in-Refused.is) c.put_refusal.ensures

pub returns-in-Query : goal.returns-in-Query
returns-in-Query g c =
    Does-query _ _ _ _ _ _ _ _ _ c.self.view_is
    (ap request_of c.in-Command.is ∙ ap command_of c.in-Query.is)
    c.put_query.ensures.timeline c.put_query.ensures.meter c.put_query.ensures.turns
    c.put_query.ensures.written

pub returns-in-Change : goal.returns-in-Change
returns-in-Change g c =
    Does-asked _ _ _ _ _ _ _ (ap request_of c.in-Command.is ∙ ap command_of c.in-Change.is)
    c.change.ensures

pub returns-in-Rebuild : goal.returns-in-Rebuild
returns-in-Rebuild g c =
    Does-rebuild _ _ _ _ _ _ _ _ c.self-in-Rebuild.view_is
    (ap request_of c.in-Command.is ∙ ap command_of c.in-Rebuild.is)
    c.rebuild.ensures.timeline c.rebuild.ensures.meter c.rebuild.ensures.turns
    c.rebuild.ensures.memory c.put_move.ensures

pub returns-in-Undo : goal.returns-in-Undo
returns-in-Undo g c =
    Does-undo _ _ _ _ _ _ _ _ c.self-in-Undo.view_is
    (ap request_of c.in-Command.is ∙ ap command_of c.in-Undo.is)
    c.undo.ensures.timeline c.undo.ensures.meter c.undo.ensures.turns c.put_move-in-Undo.ensures

pub returns-in-Redo : goal.returns-in-Redo
returns-in-Redo g c =
    Does-redo _ _ _ _ _ _ _ _ c.self-in-Redo.view_is
    (ap request_of c.in-Command.is ∙ ap command_of c.in-Redo.is)
    c.redo.ensures.timeline c.redo.ensures.meter c.redo.ensures.turns c.put_move-in-Redo.ensures

pub returns-in-Tags : goal.returns-in-Tags
returns-in-Tags g c =
    Does-tags _ _ _ _ _ _ _ _ c.self-in-Tags.view_is
    (ap request_of c.in-Command.is ∙ ap command_of c.in-Tags.is)
    c.put_tags.ensures.timeline c.put_tags.ensures.meter c.put_tags.ensures.turns
    c.put_tags.ensures.written

pub returns-in-Listing : goal.returns-in-Listing
returns-in-Listing g c =
    Does-listing _ _ _ _ _ _ _ c.self-in-Listing.view_is
    (ap request_of c.in-Command.is ∙ ap command_of c.in-Listing.is)
    c.put_listing.ensures.timeline c.put_listing.ensures.meter c.put_listing.ensures.turns
    c.put_listing.ensures.written

pub returns-in-Stack : goal.returns-in-Stack
returns-in-Stack g c =
    Does-stack _ _ _ _ _ _ c.self-in-Stack.view_is
    (ap request_of c.in-Command.is ∙ ap command_of c.in-Stack.is) c.put_stack.ensures

pub returns-in-Marks : goal.returns-in-Marks
returns-in-Marks g c =
    Does-marks _ _ _ _ _ _ c.self-in-Marks.view_is
    (ap request_of c.in-Command.is ∙ ap command_of c.in-Marks.is) c.put_marks.ensures
