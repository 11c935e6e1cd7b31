use Rattle.std.proofs.Common.{◌∙◌, sym, ap, subst, length, arith}
use Rattle.std.specs.List.{AllByRecursion}
use Rattle.cb_index.specs.Archived.{Archived}
use Rattle.cb_index.specs.Files.{IsThere}
use Rattle.cb_desk.specs.steps.Compacted.{IsCompacted}
use Rattle.cb_desk.specs.steps.Records.{Kept, Rooms}
use Rattle.cb_desk.specs.steps.Texts.{bytes_if}
use Rattle.cb_desk.specs.steps.Walks.{IsKept}
use Rattle.cb_desk.proofs.Compacted.{compacted}
use Rattle.cb_desk.proofs.present.Present.compact.Goals as goal

pub returns : goal.returns
returns c =
    let cut = c.truncate.ensures in
    let then = c.compact.ensures in
    let more = cut.room in
    let still = then.room in
    let shelf = c.compact.new.self in
    let was = c.self.inside in
    let rooms : Rooms = record {
      files = shelf.entry_room;
      defs = shelf.def_room;
      uses = shelf.use_room;
      calls = shelf.call_room;
      marks = was.marks.room;
      frames = was.frames.room;
    } in
    let compact : Kept = record {
      archive = shelf.archive;
      turns = shelf.turns;
      now = record {
        bounds = was.bounds;
        shown = shelf.shown;
        wanted = bytes_if was.wanted;
        marks = was.marks.places;
        frames = was.frames.places;
        names = was.names;
        versions = c.version_count.result;
      };
      rooms = rooms;
    } in
    subst (λ (k : Kept). IsCompacted k compact) c.self.view_is
    (compacted _ c.truncate.new.self shelf
    (subst (λ (k : Kept). IsKept k.rooms k.archive k.now) (sym c.self.view_is) c.requires)
    cut.profile cut.texts cut.names cut.shown then.same
    shelf.turns c.version_count.result rooms (then.turns ∙ cut.turns)
    (c.version_count.ensures ∙ ap (λ (a : Archived). length a.texts) c.archive.ensures)
    (record {
      files = let x = more.entries in let y = still.entries in omega (arith, x, y);
      defs = let x = more.defs in let y = still.defs in omega (arith, x, y);
      uses = let x = more.uses in let y = still.uses in omega (arith, x, y);
      calls = let x = more.calls in let y = still.calls in omega (arith, x, y);
      marks = omega arith;
      frames = omega arith;
    })
    (subst (AllByRecursion (IsThere shelf.archive)) c.shown-shown.ensures.value
    c.shown-shown.ensures.there)
    then.all)
