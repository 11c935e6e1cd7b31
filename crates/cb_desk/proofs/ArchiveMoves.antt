-- Worlds stay as they are when an archive changes behind what they use.
use Rattle.std.proofs.Common.{◌≡◌, ◌∙◌, ◌≤◌, ◌<◌, ◌+◌, ℕ, false, List, [], ◌∷◌, ◌++◌, refl, sym, ap}
use Rattle.std.proofs.Common.{subst, length, map, take, arith, length-append, length-take-le}
use Rattle.std.specs.Prelude.{Option, slice_get, slice_index_or}
use Rattle.std.specs.List.{AllByRecursion}
use Rattle.std.specs.Str.{bytes_eq}
use Rattle.cb_scan.specs.Order.{AreOrdered, in_order}
use Rattle.cb_scan.proofs.FunctionsRise.{all_implied}
use Rattle.cb_index.specs.Archived.{Archived, name_of}
use Rattle.cb_index.specs.Files.{AreApart, call_count, def_count, files_of, shown_name, total}
use Rattle.cb_index.specs.Files.{use_count}
use Rattle.cb_index.specs.Scanned.{Scanned}
use Rattle.cb_index.specs.declared.entry.Shown.{Shown}
use Rattle.cb_index.proofs.InOrderLemmas.{in_order_cong}
use Rattle.cb_index.proofs.FrontLemmas.{get_or_front, get_or_left, slice_get_front, slice_get_left}
use Rattle.cb_index.proofs.TextLemmas.{same_text}
use Rattle.cb_desk.specs.declared.places.FileLine.{FileLine}
use Rattle.cb_desk.specs.Timeline.{IsValidTimeline}
use Rattle.cb_desk.specs.Turns.{touched}
use Rattle.cb_desk.specs.steps.Records.{AreThere, Fits, IsFew, IsTurn, Kept, KeepsRooms, Numbered}
use Rattle.cb_desk.specs.steps.Records.{Rooms, Turn, other, place_in, without, world_in}
use Rattle.cb_desk.specs.steps.Walks.{IsKept, IsNext, IsRecorded, LeadsBack, LeadsOn, Recorded}
use Rattle.cb_desk.specs.steps.Walks.{timeline_in, turns_back, turns_on, walk, worlds_in}
use Rattle.cb_desk.proofs.AllUsed.{all_used}
use Rattle.cb_desk.proofs.TurnLemmas.{all_from_order}
use Rattle.cb_desk.proofs.WalkLemmas.{back_more, kept_back, kept_on, line, on_more}

-- two archives have one profile and agree on so many first names and texts, which the second has
pub record Agree (a b : Archived) (n v : ℕ) : Type 0 where
  pub profile : b.profile ≡ a.profile
  pub names : (i : ℕ) → i < n → name_of b i ≡ name_of a i
  pub texts : (i : ℕ) → i < v → slice_get b.texts i ≡ slice_get a.texts i
  pub bytes : (i : ℕ) → i < v → slice_index_or b.texts i [] ≡ slice_index_or a.texts i []
  pub name_count : n ≤ length b.names
  pub text_count : v ≤ length b.texts

-- so does an archive that keeps the first ones and has others behind them
pub agree_kept : (a b : Archived) (n v : ℕ) (names texts : List (List ℕ)) → n ≤ length a.names
    → v ≤ length a.texts → b.profile ≡ a.profile
    → b.names ≡ take n a.names ++ names → b.texts ≡ take v a.texts ++ texts → Agree a b n v
agree_kept a b n v names texts some more profile is are =
    let long : length (take n a.names) ≡ n = length-take-le n a.names some in
    let wide : length (take v a.texts) ≡ v = length-take-le v a.texts more in
    record {
      profile = profile;
      names = λ i below.
          ap (λ xs. slice_index_or xs i []) is
          ∙ get_or_left (take n a.names) names i (omega (arith, long, below))
          ∙ get_or_front n a.names i below;
      texts = λ i below.
          ap (λ xs. slice_get xs i) are
          ∙ slice_get_left (take v a.texts) texts i (omega (arith, wide, below))
          ∙ slice_get_front v a.texts i below;
      bytes = λ i below.
          ap (λ xs. slice_index_or xs i []) are
          ∙ get_or_left (take v a.texts) texts i (omega (arith, wide, below))
          ∙ get_or_front v a.texts i below;
      name_count =
          let e = ap length is ∙ length-append (take n a.names) names in omega (arith, e, long);
      text_count =
          let e = ap length are ∙ length-append (take v a.texts) texts in omega (arith, e, wide);
    }

module _ (a b : Archived) (n v : ℕ) (agree : Agree a b n v) where
  abbrev pub Below : Shown → Type 0
  Below s = (s.name < n) × (s.version < v)

  abbrev pub Named : FileLine → Type 0
  Named p = p.name < n

  -- ---- what numbers stand for
  pub files_same : (ss : List Shown) → AllByRecursion Below ss → files_of b ss ≡ files_of a ss
  files_same [] all = refl
  files_same (s ∷ ss) all =
      λ i. record { name = agree.names s.name all.0.0 i; bytes = agree.bytes s.version all.0.1 i }
      ∷ files_same ss all.1 i

  pub places_same : (ps : List FileLine) → AllByRecursion Named ps
      → map (place_in b) ps ≡ map (place_in a) ps
  places_same [] all = refl
  places_same (p ∷ ps) all = λ i.
      record { file = agree.names p.name all.0 i; line = p.line } ∷ places_same ps all.1 i

  pub total_same : (count : Option Scanned → ℕ) (ss : List Shown) → AllByRecursion Below ss
      → total count b ss ≡ total count a ss
  total_same count [] all = refl
  total_same count (s ∷ ss) all = λ i.
      count (same_text a b agree.profile s.version (agree.texts s.version all.0.1) i)
      + total_same count ss all.1 i

  -- ---- their order
  names_same : (ss : List Shown) → AllByRecursion Below ss
      → AllByRecursion (λ s. shown_name b s ≡ shown_name a s) ss
  names_same ss all =
      all_implied Below (λ s. shown_name b s ≡ shown_name a s)
      (λ s below. agree.names s.name below.0) ss all

  pub order_same : (ss : List Shown) → AllByRecursion Below ss
      → in_order (shown_name b) ss ≡ in_order (shown_name a) ss
  order_same ss all = in_order_cong (shown_name b) (shown_name a) ss (names_same ss all)

  apart_one : (s : Shown) → Below s → (ss : List Shown) → AllByRecursion Below ss
      → AllByRecursion (λ (t : Shown). bytes_eq (name_of a s.name) (name_of a t.name) ≡ false) ss
      → AllByRecursion (λ (t : Shown). bytes_eq (name_of b s.name) (name_of b t.name) ≡ false) ss
  apart_one s here [] all apart = tt
  apart_one s here (t ∷ ss) all apart = (
    (λ i. bytes_eq (agree.names s.name here.0 i) (agree.names t.name all.0.0 i)) ∙ apart.0,
    apart_one s here ss all.1 apart.1,
  )

  pub apart_same : (ss : List Shown) → AllByRecursion Below ss → AreApart a ss → AreApart b ss
  unfolding AreOrdered
  apart_same [] all apart = tt
  apart_same (s ∷ ss) all apart = (apart_one s all.0 ss all.1 apart.0, apart_same ss all.1 apart.1)

  -- ---- a world
  module _ (w : Numbered) (there : AreThere a w) (few : w.names ≤ n) (low : w.versions ≤ v) where
    pub below_shown : AllByRecursion Below w.shown
    below_shown =
        all_implied (λ (s : Shown). (s.name < w.names) × (s.version < w.versions)) Below
        (λ s is. (omega (arith, is.0, few), omega (arith, is.1, low))) w.shown there.shown

    pub below_places : (ps : List FileLine)
        → AllByRecursion (λ (p : FileLine). p.name < w.names) ps → AllByRecursion Named ps
    below_places ps all =
        all_implied (λ (p : FileLine). p.name < w.names) Named
        (λ p is. omega (arith, is, few)) ps all

    pub world_same : world_in b w ≡ world_in a w
    world_same =
        λ i. record {
          profile = agree.profile i;
          bounds = w.bounds;
          files = files_same w.shown below_shown i;
          wanted = w.wanted;
          marks = places_same w.marks (below_places w.marks there.marks) i;
          frames = places_same w.frames (below_places w.frames there.frames) i;
        }

    pub there_same : AreThere b w
    there_same = record {
      shown = there.shown;
      marks = there.marks;
      frames = there.frames;
      names = let c = agree.name_count in omega (arith, c, few);
      versions = let c = agree.text_count in omega (arith, c, low);
    }

    pub fits_same : (r : Rooms) → Fits r a w → Fits r b w
    fits_same r fits = record {
      files = fits.files;
      defs =
          let e = total_same def_count w.shown below_shown in let f = fits.defs in
          omega (arith, e, f);
      uses =
          let e = total_same use_count w.shown below_shown in let f = fits.uses in
          omega (arith, e, f);
      calls =
          let e = total_same call_count w.shown below_shown in let f = fits.calls in
          omega (arith, e, f);
      marks = fits.marks;
      frames = fits.frames;
    }

  -- ---- a turn
  module _ (t : Turn) (w : Numbered) (there : AreThere a w) (few : w.names ≤ n)
      (low : w.versions ≤ v)
      (then : AreThere a (other a t w)) (few_then : t.names ≤ n) (low_then : t.versions ≤ v) where
    below_then : AllByRecursion Below (without t.hides w.shown ++ t.shows)
    below_then =
        all_from_order (shown_name a) Below (without t.hides w.shown ++ t.shows)
        (below_shown (other a t w) then few_then low_then)

    pub other_same : other b t w ≡ other a t w
    other_same =
        ap (λ xs. record (other a t w) { shown = xs })
        (order_same (without t.hides w.shown ++ t.shows) below_then)

    few_same : IsFew a t w → IsFew b t w
    few_same is =
        let now : world_in b w ≡ world_in a w = world_same w there few low in
        let next : world_in b (other b t w) ≡ world_in a (other a t w) =
        ap (world_in b) other_same ∙ world_same (other a t w) then few_then low_then in
        record {
          on =
              let e : length (touched (world_in b w) (world_in b (other b t w)))
              ≡ length (touched (world_in a w) (world_in a (other a t w))) =
              (λ i. length (touched (now i) (next i))) in
              let fits = is.on in omega (arith, e, fits);
          back =
              let e : length (touched (world_in b (other b t w)) (world_in b w))
              ≡ length (touched (world_in a (other a t w)) (world_in a w)) =
              (λ i. length (touched (next i) (now i))) in
              let fits = is.back in omega (arith, e, fits);
        }

    pub turn_same : IsTurn a t w → IsTurn b t w
    turn_same is =
        let below : AllByRecursion Below (without t.hides w.shown ++ t.hides) =
        all_from_order (shown_name a) Below (without t.hides w.shown ++ t.hides)
        (subst (AllByRecursion Below) (sym is.shown) (below_shown w there few low)) in
        record {
          hides_rise = is.hides_rise;
          shows_rise = is.shows_rise;
          apart = apart_same (without t.hides w.shown ++ t.hides) below is.apart;
          apart_then = apart_same (without t.hides w.shown ++ t.shows) below_then is.apart_then;
          shown = order_same (without t.hides w.shown ++ t.hides) below ∙ is.shown;
          others = ap (λ (x : Numbered). without t.shows x.shown) other_same ∙ is.others;
          marks = is.marks;
          frames = is.frames;
          few = few_same is.few;
        }

  -- ---- all turns that lead back
  module _ (r : Rooms) where
    pub kept_same : (w : Numbered) → IsKept r a w → w.names ≤ n → w.versions ≤ v → IsKept r b w
    kept_same w is few low = record {
      there = there_same w is.there few low;
      fits = fits_same w is.there few low r is.fits;
    }

    pub back_same : (w : Numbered) (ts : List Turn) → w.names ≤ n → w.versions ≤ v
        → LeadsBack r a w ts → LeadsBack r b w ts
    unfolding LeadsBack
    back_same w [] few low is = (kept_same w is.0 few low, is.1)
    back_same w (t ∷ ts) few low is =
        let few_then : t.names ≤ n = let x = is.2.names in omega (arith, x, few) in
        let low_then : t.versions ≤ v = let x = is.2.versions in omega (arith, x, low) in
        let then : AreThere a (other a t w) = (kept_back r a (other a t w) ts is.3).there in (
          kept_same w is.0 few low,
          turn_same t w is.0.there few low then few_then low_then is.1,
          subst (λ x. IsNext x w)
              (sym (other_same t w is.0.there few low then few_then low_then)) is.2,
          subst (λ x. LeadsBack r b x ts)
              (sym (other_same t w is.0.there few low then few_then low_then))
              (back_same (other a t w) ts few_then low_then is.3),
        )

    pub walk_same : (w : Numbered) (ts : List Turn) → w.names ≤ n → w.versions ≤ v
        → LeadsBack r a w ts
        → worlds_in b (walk b w ts) ≡ worlds_in a (walk a w ts)
    unfolding LeadsBack
    walk_same w [] few low is = refl
    walk_same w (t ∷ ts) few low is =
        let few_then : t.names ≤ n = let x = is.2.names in omega (arith, x, few) in
        let low_then : t.versions ≤ v = let x = is.2.versions in omega (arith, x, low) in
        let then : AreThere a (other a t w) = (kept_back r a (other a t w) ts is.3).there in
        ap (λ x. world_in b x ∷ worlds_in b (walk b x ts))
        (other_same t w is.0.there few low then few_then low_then)
        ∙ (λ i. world_same (other a t w) then few_then low_then i
        ∷ walk_same (other a t w) ts few_then low_then is.3 i)

-- ---- only the room of an archive changes
module _ (a b : Archived) (profile : b.profile ≡ a.profile) (names : b.names ≡ a.names)
    (texts : b.texts ≡ a.texts) where
  pub agree_all : Agree a b (length a.names) (length a.texts)
  agree_all = record {
    profile = profile;
    names = λ i below. ap (λ xs. slice_index_or xs i []) names;
    texts = λ i below. ap (λ xs. slice_get xs i) texts;
    bytes = λ i below. ap (λ xs. slice_index_or xs i []) texts;
    name_count = let e = ap length names in omega (arith, e);
    text_count = let e = ap length texts in omega (arith, e);
  }

  module _ (r : Rooms) where
    pub kept_moved : (w : Numbered) → IsKept r a w → IsKept r b w
    kept_moved w is =
        kept_same a b (length a.names) (length a.texts) agree_all r w is
        is.there.names is.there.versions

    pub on_moved : (w : Numbered) (ts : List Turn) → LeadsOn r a w ts → LeadsOn r b w ts
    unfolding LeadsOn
    on_moved w [] is = (
      kept_moved w is.0,
      record {
        names = is.1.names ∙ sym (ap length names);
        versions = is.1.versions ∙ sym (ap length texts);
      },
    )
    on_moved w (t ∷ ts) is =
        let then = (kept_on r a (other a t w) ts is.3).there in (
          kept_moved w is.0,
          turn_same a b (length a.names) (length a.texts) agree_all t w is.0.there is.0.there.names
              is.0.there.versions then then.names then.versions is.1,
          subst (λ x. IsNext w x)
              (sym (other_same a b (length a.names) (length a.texts) agree_all t w is.0.there
              is.0.there.names is.0.there.versions then then.names then.versions))
              is.2,
          subst (λ x. LeadsOn r b x ts)
              (sym (other_same a b (length a.names) (length a.texts) agree_all t w is.0.there
              is.0.there.names is.0.there.versions then then.names then.versions))
              (on_moved (other a t w) ts is.3),
        )

    pub walk_on_moved : (w : Numbered) (ts : List Turn) → LeadsOn r a w ts
        → worlds_in b (walk b w ts) ≡ worlds_in a (walk a w ts)
    unfolding LeadsOn
    walk_on_moved w [] is = refl
    walk_on_moved w (t ∷ ts) is =
        let then = (kept_on r a (other a t w) ts is.3).there in
        ap (λ x. world_in b x ∷ worlds_in b (walk b x ts))
        (other_same a b (length a.names) (length a.texts) agree_all t w is.0.there is.0.there.names
        is.0.there.versions then then.names then.versions)
        ∙ (λ i. world_same a b (length a.names) (length a.texts) agree_all (other a t w)
        then then.names then.versions i
        ∷ walk_on_moved (other a t w) ts is.3 i)

-- the timeline stays where only room changes
module _ (k l : Kept) (records : List Turn) (done : ℕ) (now : l.now ≡ k.now)
    (profile : l.archive.profile ≡ k.archive.profile) (names : l.archive.names ≡ k.archive.names)
    (texts : l.archive.texts ≡ k.archive.texts) (rooms : KeepsRooms k.rooms l.rooms)
    (is : IsRecorded (record { kept = k; records = records; done = done })) where
  abbrev before : Recorded
  before = record { kept = k; records = records; done = done }

  abbrev after_room : Recorded
  after_room = record { kept = l; records = records; done = done }

  present_there : AreThere k.archive k.now
  present_there = (kept_back k.rooms k.archive k.now (turns_back before) is.back).there

  pub same_timeline : timeline_in after_room ≡ timeline_in before
  same_timeline =
      ap (λ w. line l.archive (turns_back before) w (turns_on before)) now
      ∙ (λ i. record {
        past =
            walk_same k.archive l.archive (length k.archive.names) (length k.archive.texts)
            (agree_all k.archive l.archive profile names texts) k.rooms k.now
            (turns_back before) present_there.names present_there.versions is.back i;
        present =
            world_same k.archive l.archive (length k.archive.names) (length k.archive.texts)
            (agree_all k.archive l.archive profile names texts) k.now
            present_there present_there.names present_there.versions i;
        future =
            walk_on_moved k.archive l.archive profile names texts k.rooms k.now (turns_on before)
            is.on i;
      })

  leads_back : LeadsBack l.rooms l.archive l.now (turns_back after_room)
  leads_back = subst (λ w. LeadsBack l.rooms l.archive w (turns_back before)) (sym now)
      (back_more k.rooms l.rooms l.archive k.now (turns_back before) rooms
      (back_same k.archive l.archive (length k.archive.names) (length k.archive.texts)
      (agree_all k.archive l.archive profile names texts) k.rooms k.now
      (turns_back before) present_there.names present_there.versions is.back))

  leads_on : LeadsOn l.rooms l.archive l.now (turns_on after_room)
  leads_on = subst (λ w. LeadsOn l.rooms l.archive w (turns_on before)) (sym now)
      (on_more k.rooms l.rooms l.archive k.now (turns_on before) rooms
      (on_moved k.archive l.archive profile names texts k.rooms k.now (turns_on before) is.on))

  pub same_recorded : IsRecorded after_room
  same_recorded = record {
    within = is.within;
    used = all_used after_room leads_back leads_on;
    back = leads_back;
    on = leads_on;
    valid = subst IsValidTimeline (sym same_timeline) is.valid;
  }
