use Rattle.std.proofs.Common.{◌≡◌, ◌∙◌, ◌++◌, sym, ap, length, arith}
use Rattle.std.proofs.lemmas.List.{length-map}
use Rattle.cb_scan.specs.Order.{in_order}
use Rattle.cb_index.specs.Blocks.{Listing, joined}
use Rattle.cb_index.specs.Entries.{sort_key}
use Rattle.cb_index.specs.Held.{entries_of, entry_of, listed_of}
use Rattle.cb_index.proofs.InOrderLemmas.{length_in_order}
use Rattle.cb_index.proofs.PutLemmas.{parts_length}
use Rattle.cb_index.specs.Kinds.{keyer_of, lister_of}
use Rattle.cb_index.specs.declared.entry.Posting.{Posting}
use Rattle.cb_index.proofs.index.BlockList+Posting.take_all.Goals as goal

-- what is held is no less than what goes
pub append-requires : goal.append-requires
append-requires c =
    let a = c.args.archive.now in
    let key = sort_key (keyer_of c.args.kind) a in
    let prefixes = listed_of (lister_of c.args.kind) a c.args.shown.version in
    let gone = entries_of (lister_of c.args.kind) a c.args.shown in
    let size = length-map prefixes (entry_of c.args.shown) in
    let held =
    parts_length key (joined c.self.inside.blocks.used) gone c.requires.0
    (ap (λ (h : Listing Posting). h.items) c.self.view_is ∙ c.requires.1) in
    let none : length c.truncate.new.self.items ≡ 0 = ap length c.truncate.ensures.items in
    omega (
      arith,
      size,
      held,
      none,
      c.truncate.new.self.ok.0,
      c.self.invariant.0,
      c.truncate.ensures.capacity,
    )

pub take_rest-requires : goal.take_rest-requires
take_rest-requires c =
    let a = c.args.archive.now in
    let key = sort_key (keyer_of c.args.kind) a in
    let gone = entries_of (lister_of c.args.kind) a c.args.shown in
    let items : c.append.new.entries.items ≡ gone =
    c.append.ensures.entries ∙ ap (λ l. l ++ gone) c.truncate.ensures.items in (
      c.requires.0,
      ap (λ (h : Listing Posting). h.items) c.self.view_is ∙ c.requires.1
          ∙ ap (λ l. in_order key (l ++ c.requires.0)) (sym items),
    )

pub invariant_of-self : goal.invariant_of-self
invariant_of-self c =
    let a = c.args.archive.now in
    let key = sort_key (keyer_of c.args.kind) a in
    let gone = entries_of (lister_of c.args.kind) a c.args.shown in
    let items : c.append.new.entries.items ≡ gone =
    c.append.ensures.entries ∙ ap (λ l. l ++ gone) c.truncate.ensures.items in
    let held =
    parts_length key (joined c.self.inside.blocks.used) gone c.requires.0
    (ap (λ (h : Listing Posting). h.items) c.self.view_is ∙ c.requires.1) in
    let left : joined c.take_rest.new.blocks.used ≡ in_order key c.requires.0 =
    c.take_rest.ensures.taken c.requires.0
    (ap (λ (h : Listing Posting). h.items) c.self.view_is ∙ c.requires.1
    ∙ ap (λ l. in_order key (l ++ c.requires.0)) (sym items)) in
    let size : length (joined c.take_rest.new.blocks.used) ≡ length c.requires.0 =
    ap length left ∙ length_in_order key c.requires.0 in (
      omega (
        arith,
        held,
        size,
        c.self.invariant.0,
        c.truncate.ensures.capacity,
        c.append.ensures.room,
        c.take_rest.ensures.room,
      ),
      omega (arith, held, size, c.self.invariant.1, c.take_rest.ensures.count),
    )

pub returns-clause-entries : goal.returns-clause-entries
returns-clause-entries c = λ rest is.
    let a = c.args.archive.now in
    let key = sort_key (keyer_of c.args.kind) a in
    let gone = entries_of (lister_of c.args.kind) a c.args.shown in
    let items : c.append.new.entries.items ≡ gone =
    c.append.ensures.entries ∙ ap (λ l. l ++ gone) c.truncate.ensures.items in
    c.take_rest.ensures.taken rest
    (ap (λ (h : Listing Posting). h.items) c.self.view_is ∙ is
    ∙ ap (λ l. in_order key (l ++ rest)) (sym items))
