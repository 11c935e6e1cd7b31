use Rattle.std.proofs.Common.{rules, ◌∙◌, ap, filter}
use Rattle.std.specs.Prelude.{not}
use Rattle.cb_index.specs.Held.{Indexed}
use Rattle.cb_index.specs.Names.{is_among, names_of}
use Rattle.cb_index.specs.declared.entry.Posting.{Posting}
use Rattle.cb_index.specs.declared.entry.Shown.{Shown}
use Rattle.cb_index.proofs.index.Index.take_names.Goals as goal

pub returns : goal.returns
returns c = record {
  itself = search rules;
  held = c.take_names.ensures.items
      ∙ ap (λ (x : Indexed). filter
      (λ (e : Posting). not (is_among (names_of c.args.files.now) e.name)) x.held) c.self.view_is;
  pending = c.take_named.ensures.items
      ∙ ap (λ (x : Indexed). filter
      (λ (s : Shown). not (is_among (names_of c.args.files.now) s.name)) x.pending) c.self.view_is;
}
