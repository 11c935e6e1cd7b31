use Rattle.std.proofs.Common.{rules, ◌≡◌, ◌∙◌, ◌<◌, ◌++◌, List, [], ◌∷◌, sym, ap, subst, filter}
use Rattle.std.proofs.Common.{length, nat_eq, arith}
use Rattle.std.specs.List.{prefix_len, remove}
use Rattle.std.specs.Prelude.{not}
use Rattle.cb_scan.specs.Order.{in_order}
use Rattle.cb_index.specs.Archived.{Archived}
use Rattle.cb_index.specs.Entries.{sort_key}
use Rattle.cb_index.specs.Held.{Indexed, all_entries, entries_of}
use Rattle.cb_index.specs.Kinds.{keyer_of, lister_of}
use Rattle.cb_index.specs.Names.{AreSingle, is_among}
use Rattle.cb_index.specs.declared.entry.Posting.{Posting}
use Rattle.cb_index.specs.declared.entry.Shown.{Shown}
use Rattle.cb_index.specs.declared.entry.IndexKind.{IndexKind}
use Rattle.cb_index.proofs.CoverLemmas.{apart_back, apart_single, covers_held, covers_unheld}
use Rattle.cb_index.proofs.CoverLemmas.{covers_passed, covers_unwaited, none_waits}
use Rattle.cb_index.proofs.KeptLemmas.{of_its_kind}
use Rattle.cb_index.proofs.index.Index.take.Goals as goal

-- the entries of a version stand among those of an index of a kind
abbrev HasOnes : Archived → Shown → List Posting → IndexKind → List Posting → Type 0
HasOnes a one es kind rest =
    es ≡ in_order (sort_key (keyer_of kind) a) (entries_of (lister_of kind) a one ++ rest)

-- no two are pending under one number
pub place_of_name-at-requires : goal.place_of_name-at-requires
place_of_name-at-requires c =
    let x = c.args.self.now in
    let same : c.self.inside.pending.items ≡ x.pending =
    ap (λ (x : Indexed). x.pending) c.self.view_is in
    subst AreSingle (sym (c.as_slice-pending.ensures.value ∙ same))
    (apart_single c.args.archive.now x.pending
    (apart_back c.args.archive.now c.requires.1.sorted x.pending c.requires.1.apart))

pub take_all-requires : goal.take_all-requires
take_all-requires c =
    let x = c.args.self.now in
    let kind : c.self.inside.kind ≡ x.kind = ap (λ (x : Indexed). x.kind) c.self.view_is in
    let a = c.args.archive.now in
    let one = c.args.one in
    let same : c.self.inside.pending.items ≡ x.pending =
    ap (λ (x : Indexed). x.pending) c.self.view_is in
    let at =
    c.place_of_name-at.ensures.place ∙ ap (prefix_len (λ (s : Shown). not (nat_eq s.name one.name)))
    (c.as_slice-pending.ensures.value ∙ same) in
    let counted : c.len.result ≡ length c.self.inside.pending.items = search rules in
    let none =
    none_waits a one.name x.pending (sym at ∙ c.if-at-len.true ∙ counted ∙ ap length same) in
    let rest =
    all_entries (lister_of x.kind) a
    (filter (λ (s : Shown). not (nat_eq s.name one.name)) c.requires.1.sorted) in (
      rest,
      subst (λ k. HasOnes a one c.self.inside.postings.items k rest) (sym kind)
          (ap (λ (x : Indexed). x.held) c.self.view_is ∙ covers_held (keyer_of x.kind)
          (lister_of x.kind) a one c.requires.0 x none c.requires.2 c.requires.1),
    )

pub returns-then-has_few : goal.returns-then-has_few
returns-then-has_few c =
    let x = c.args.self.now in
    let kind : c.self.inside.kind ≡ x.kind = ap (λ (x : Indexed). x.kind) c.self.view_is in
    let a = c.args.archive.now in
    let one = c.args.one in
    let same : c.self.inside.pending.items ≡ x.pending =
    ap (λ (x : Indexed). x.pending) c.self.view_is in
    let at =
    c.place_of_name-at.ensures.place ∙ ap (prefix_len (λ (s : Shown). not (nat_eq s.name one.name)))
    (c.as_slice-pending.ensures.value ∙ same) in
    let counted : c.len.result ≡ length c.self.inside.pending.items = search rules in
    let none =
    none_waits a one.name x.pending (sym at ∙ c.if-at-len.true ∙ counted ∙ ap length same) in
    let old = c.self.inside.postings.items in
    let new = c.take_all.new.self.items in
    let taken =
    subst (λ k. (rest : List Posting) → HasOnes a one old k rest
    → new ≡ in_order (sort_key (keyer_of k) a) rest) kind c.take_all.ensures.entries in
    record {
      itself = search rules;
      others = λ shown is under.
          of_its_kind a (filter (λ (s : Shown). not (nat_eq s.name one.name)) shown) x _ kind
          (covers_unheld (keyer_of x.kind) (lister_of x.kind) a one shown x _ none is
          (taken (all_entries (lister_of x.kind) a
          (filter (λ (s : Shown). not (nat_eq s.name one.name)) is.sorted))
          (ap (λ (x : Indexed). x.held) c.self.view_is
          ∙ covers_held (keyer_of x.kind) (lister_of x.kind) a one shown x none under is)) same);
    }

pub returns-else-has_few : goal.returns-else-has_few
returns-else-has_few c =
    let x = c.args.self.now in
    let kind : c.self.inside.kind ≡ x.kind = ap (λ (x : Indexed). x.kind) c.self.view_is in
    let a = c.args.archive.now in
    let one = c.args.one in
    let same : c.self.inside.pending.items ≡ x.pending =
    ap (λ (x : Indexed). x.pending) c.self.view_is in
    let at =
    c.place_of_name-at.ensures.place ∙ ap (prefix_len (λ (s : Shown). not (nat_eq s.name one.name)))
    (c.as_slice-pending.ensures.value ∙ same) in
    let counted : c.len.result ≡ length c.self.inside.pending.items = search rules in
    let none =
    none_waits a one.name x.pending (sym at ∙ c.if-at-len.true ∙ counted ∙ ap length same) in
    record {
      itself = search rules;
      others = λ shown is under.
          of_its_kind a (filter (λ (s : Shown). not (nat_eq s.name one.name)) shown) x _ kind
          (covers_passed (keyer_of x.kind) (lister_of x.kind) a one shown x _ none
          (c.take_names.ensures.items
          ∙ ap (λ (x : Indexed). filter
          (λ (e : Posting). not (is_among (one.name ∷ []) e.name)) x.held) c.self.view_is)
          same is);
    }

pub returns : goal.returns
returns c =
    let x = c.args.self.now in
    let kind : c.self.inside.kind ≡ x.kind = ap (λ (x : Indexed). x.kind) c.self.view_is in
    let a = c.args.archive.now in
    let one = c.args.one in
    let same : c.self.inside.pending.items ≡ x.pending =
    ap (λ (x : Indexed). x.pending) c.self.view_is in
    let at =
    c.place_of_name-at.ensures.place ∙ ap (prefix_len (λ (s : Shown). not (nat_eq s.name one.name)))
    (c.as_slice-pending.ensures.value ∙ same) in
    let counted : c.len.result ≡ length c.self.inside.pending.items = search rules in
    let within = c.place_of_name-at.ensures.bound in
    let long = ap length (c.as_slice-pending.ensures.value ∙ same) in
    let counts = counted ∙ ap length same in
    let isnt = c.if-at-len.false in
    let less : c.place_of_name-at.result < length x.pending =
    omega (arith, within, long, counts, isnt) in
    let left = c.remove-one.ensures.items ∙ (λ i. remove (same i) (at i)) in
    record {
      itself = search rules;
      others = λ shown is under.
          of_its_kind a (filter (λ (s : Shown). not (nat_eq s.name one.name)) shown) x _ kind
          (covers_unwaited (keyer_of x.kind) (lister_of x.kind) a one.name shown x _
          (subst (λ n. n < length x.pending) at less)
          (ap (λ (x : Indexed). x.held) c.self.view_is) left is);
    }
