-- File events, an event at a time.
use Rattle.std.proofs.Common.{◌≡◌, ◌<◌, ◌≤◌, ◌+◌, ◌∙◌, ◌∷◌, Bool, List, ℕ, drop, get_or, length}
use Rattle.std.proofs.Common.{◌-◌, false, true, zero, suc, arith, refl, ap, subst, sym, take}
use Rattle.std.proofs.lemmas.List.{length-drop}
use Rattle.std.proofs.Math.Seq.{take-length}
use Rattle.std.specs.Prelude.{◌||◌, codes, Option, None, Some, Result, if◌then◌else◌}
use Rattle.json.specs.Find.{get}
use Rattle.json.specs.Json.{Json, Items, no_items, item}
use Rattle.json.specs.Value.{items_view, value_view}
use Rattle.json.specs.declared.value.Value.{Value}
use Rattle.cb_tags.specs.Writers.{Writer}
use Rattle.cb_wire.specs.Uris.{path_of}
use Rattle.cb_lsp.specs.declared.notice.FileEvent.{FileEvent}
use Rattle.cb_lsp.specs.declared.notice.FileEvent.TheVariants.{Written, Gone}
use Rattle.cb_lsp.specs.Bodies.{DoesBy}
use Rattle.cb_lsp.specs.Documents.{Looked, Reading, Oracle}
use Rattle.cb_lsp.specs.FileEvents.{comes_again, event_if, is_said, last_events, says}
use Rattle.cb_lsp.specs.Messages.{Outcome, Serving, all_happened, and_then, happened, happened_as}
use Rattle.cb_lsp.specs.Messages.{happened_at, happened_in, happened_to, replies, stays, unread}
use Rattle.cb_lsp.specs.Params.{event_of, text_in}
use Rattle.cb_lsp.specs.steps.Works.{one_change, one_event}
use Rattle.cb_lsp.proofs.InTurn.{first_of_all}
use Rattle.cb_lsp.proofs.Items.{items_view-drop, items_view-end}

-- what is decided for the first event
at-first : (kind : FileEvent) (n : Bool) (f : Reading) (more : Oracle) (s : Serving)
    (path : Option (List ℕ))
    → happened_at kind (record { refusals = n ∷ more.refusals; found = f ∷ more.found }) s path
    ≡ happened_at kind (one_change n f) s path
at-first Written n f more s None = refl
at-first Written n f more s (Some path) = refl
at-first Gone n f more s None = refl
at-first Gone n f more s (Some path) = refl

to-first : (kind : FileEvent) (m n : Bool) (f : Reading) (more : Oracle) (s : Serving)
    (uri : Option (List ℕ))
    → happened_to kind (first_of_all m n f more) s uri ≡ happened_to kind (one_event m n f) s uri
to-first kind m n f more s None = refl
to-first kind m n f more s (Some uri) =
    ap (λ (o : Outcome). if m then replies s (unread uri) else o) (at-first kind n f more s (path_of uri))

as-first : (kind : Option FileEvent) (m n : Bool) (f : Reading) (more : Oracle) (s : Serving)
    (event : Json)
    → happened_as kind (first_of_all m n f more) s event ≡ happened_as kind (one_event m n f) s event
as-first None m n f more s event = refl
as-first (Some kind) m n f more s event =
    to-first kind m n f more s (text_in (get (codes "uri") event))

pub all-first : (m n : Bool) (f : Reading) (more : Oracle) (s : Serving) (event : Json) (left : Items)
    → all_happened (first_of_all m n f more) s (item event left)
    ≡ and_then (happened (one_event m n f) s event)
    (all_happened more (happened (one_event m n f) s event).server left)
unfolding all_happened
all-first m n f more s event left =
    ap (λ (o : Outcome). and_then o (all_happened more o.server left))
    (as-first (event_of event) m n f more s event)

-- what is behind a place is as long as it is
pub rest-of : {X : Type 0} (xs : List X) (k : ℕ) → take (length xs - k) (drop k xs) ≡ drop k xs
rest-of xs k = ap (λ n. take n (drop k xs)) (sym (length-drop k xs)) ∙ take-length (drop k xs)

-- one of the events ahead less
left-more : (i : ℕ) → i < 64 → 64 - i ≡ suc (64 - (i + 1))
left-more i ahead = omega (arith, ahead)

-- the first of the events that are left
pub last-drop : {A : Type 0} (vs : List (Value A)) (i : ℕ) (v : Value A) (again : Bool)
    → i < length vs → v ≡ get_or vs i v
    → again ≡ comes_again (value_view v) (items_view (drop (i + 1) vs))
    → last_events (items_view (drop i vs))
    ≡ item (event_if again (value_view v)) (last_events (items_view (drop (i + 1) vs)))
unfolding last_events
last-drop vs i v again within is comes =
    ap last_events (items_view-drop vs i v within is)
    ∙ ap (λ b. item (event_if b (value_view v)) (last_events (items_view (drop (i + 1) vs))))
    (sym comes)

pub last-end : {A : Type 0} (vs : List (Value A)) (i : ℕ) → length vs ≤ i
    → last_events (items_view (drop i vs)) ≡ no_items
unfolding last_events
last-end vs i past = ap last_events (items_view-end vs i past)

-- ---- what is said again

pub said-found : {A : Type 0} (kind : FileEvent) (uri : List ℕ) (vs : List (Value A)) (i : ℕ)
    (v : Value A) → i < length vs → v ≡ get_or vs i v → i < 64
    → says kind uri (value_view v) ≡ true
    → is_said (64 - i) kind uri (items_view (drop i vs)) ≡ true
unfolding is_said
said-found kind uri vs i v within is ahead said =
    let rest = items_view (drop (i + 1) vs) in
    ap (λ n. is_said n kind uri (items_view (drop i vs))) (left-more i ahead)
    ∙ ap (is_said (suc (64 - (i + 1))) kind uri) (items_view-drop vs i v within is)
    ∙ ap (λ b. b || is_said (64 - (i + 1)) kind uri rest) said

pub said-more : {A : Type 0} (kind : FileEvent) (uri : List ℕ) (vs : List (Value A)) (i : ℕ)
    (v : Value A) → i < length vs → v ≡ get_or vs i v → i < 64
    → says kind uri (value_view v) ≡ false
    → is_said (64 - i) kind uri (items_view (drop i vs))
    ≡ is_said (64 - (i + 1)) kind uri (items_view (drop (i + 1) vs))
unfolding is_said
said-more kind uri vs i v within is ahead said =
    let rest = items_view (drop (i + 1) vs) in
    ap (λ n. is_said n kind uri (items_view (drop i vs))) (left-more i ahead)
    ∙ ap (is_said (suc (64 - (i + 1))) kind uri) (items_view-drop vs i v within is)
    ∙ ap (λ b. b || is_said (64 - (i + 1)) kind uri rest) said

none-said : (n : ℕ) (kind : FileEvent) (uri : List ℕ) → is_said n kind uri no_items ≡ false
unfolding is_said
none-said zero kind uri = refl
none-said (suc n) kind uri = refl

pub said-end : {A : Type 0} (kind : FileEvent) (uri : List ℕ) (vs : List (Value A)) (i : ℕ)
    → length vs ≤ i → is_said (64 - i) kind uri (items_view (drop i vs)) ≡ false
said-end kind uri vs i past =
    ap (is_said (64 - i) kind uri) (items_view-end vs i past) ∙ none-said (64 - i) kind uri

pub said-no-more : (i : ℕ) (kind : FileEvent) (uri : List ℕ) (events : Items) → i ≡ 64
    → is_said (64 - i) kind uri events ≡ false
unfolding is_said
said-no-more i kind uri events is = ap (λ n. is_said (64 - n) kind uri events) is

-- no event is left
pub none-left : (o : Oracle) (s : Serving) → stays s ≡ all_happened o s no_items
unfolding all_happened
none-left o s = refl

-- these are all events that there are
pub in-list : {A E : Type 0} (finds : Looked → Type 0) (start now : Serving)
    (before after : Writer) (events : Items) (list : Option Items) (r : Result A E)
    → Some events ≡ list
    → ((o : Oracle) × DoesBy finds (all_happened o start (last_events events)) now before after r)
    → (o : Oracle) × DoesBy finds (happened_in o start list) now before after r
in-list finds start now before after events list r is does =
    subst (λ x. (o : Oracle) × DoesBy finds (happened_in o start x) now before after r) is
    does
