-- Plans that change the files.
use Rattle.std.proofs.Common.{◌≡◌, ◌∙◌, ◌≤◌, ◌<◌, ◌+◌, ℕ, Bool, true, false, List, [], ◌∷◌, ◌++◌}
use Rattle.std.proofs.Common.{refl, sym, ap, subst, length, map, take, not, cond, arith, append-nil}
use Rattle.std.proofs.Common.{length-append, length-take-le, Option, None}
use Rattle.std.proofs.Math.Seq.{get_or-append_seam}
use Rattle.std.specs.Prelude.{nat_eq, slice_index_or, ◌||◌}
use Rattle.std.specs.List.{AllByRecursion}
use Rattle.std.specs.Str.{bytes_eq}
use Rattle.cb_scan.specs.Order.{in_order}
use Rattle.cb_scan.proofs.FactsWithin.{all_in_order}
use Rattle.cb_scan.proofs.FunctionsRise.{all_implied}
use Rattle.cb_index.specs.Archived.{Archived, name_of}
use Rattle.cb_index.specs.Compact.{shows_version}
use Rattle.cb_index.specs.Files.{AreAscending, files_of, shown_name}
use Rattle.cb_index.specs.Names.{is_among, names_of}
use Rattle.cb_index.specs.declared.entry.Shown.{Shown}
use Rattle.cb_index.proofs.InOrderLemmas.{map_in_order}
use Rattle.cb_index.proofs.AscendLemmas.{ascending_sorted}
use Rattle.cb_index.proofs.ListedLemmas.{ascending_apart, ascending_in_order, other_turned}
use Rattle.cb_desk.specs.declared.places.FileLine.{FileLine}
use Rattle.cb_desk.specs.Files.{loaded, reloaded, renamed, unloaded, with_file}
use Rattle.cb_desk.specs.Places.{is_in, renamed_place, renamed_places, without_places}
use Rattle.cb_desk.specs.World.{File, Place, has_file, place_key}
use Rattle.cb_desk.specs.steps.Edits.{Edits, IsDifference, each, edited, turned_edits}
use Rattle.cb_desk.specs.steps.Plans.{IsAmong, IsPlan, Keeps, LeadsTo, Planned, is_of, key_then}
use Rattle.cb_desk.specs.steps.Plans.{name_then, places_without, renumbered}
use Rattle.cb_desk.specs.steps.Records.{IsFew, Kept, other_wanted, place_in, without, world_in}
use Rattle.cb_desk.specs.steps.Walks.{IsKept, shows_name}
use Rattle.cb_desk.proofs.AllUsed.{any_shown, none_new, only_new}
use Rattle.cb_desk.proofs.ArchiveMoves.{Agree, agree_kept, apart_same, below_shown, files_same}
use Rattle.cb_desk.proofs.ArchiveMoves.{order_same, places_same}
use Rattle.cb_desk.proofs.PlacePlans.{settled, without_none}
use Rattle.cb_desk.proofs.Placed.{map-filter}
use Rattle.cb_desk.proofs.ShownMoves.{Hides, IsOther, Shows, all_among, file_put, files_without}
use Rattle.cb_desk.proofs.ShownMoves.{hides_none, hides_one, number_below, number_itself}
use Rattle.cb_desk.proofs.ShownMoves.{order_more, others, shows_none, shows_one, text_shown}
use Rattle.cb_desk.proofs.TurnLemmas.{few_small}
use Rattle.cb_desk.proofs.Valid.{all-filter, all-join}

abbrev pub Places : List FileLine → ℕ → Type 0
Places ps n = AllByRecursion (λ (p : FileLine). p.name < n) ps

-- ---- an archive that has what is new behind what the present world uses
module _ (k : Kept) (p : Planned) (kept : IsKept k.rooms k.archive k.now)
    (ascending : AreAscending k.archive k.now.shown)
    (a : Archived) (keeps : Keeps k.archive k.now p a) where
  abbrev n : ℕ
  n = k.now.names

  abbrev v : ℕ
  v = k.now.versions

  pub agree : Agree k.archive a n v
  agree =
      agree_kept k.archive a n v p.names p.texts kept.there.names kept.there.versions
      keeps.profile keeps.names keeps.texts

  pub all_below : AllByRecursion (λ (s : Shown). (s.name < n) × (s.version < v)) k.now.shown
  all_below = below_shown k.archive a n v agree k.now kept.there (omega arith) (omega arith)

  in_place : in_order (shown_name a) k.now.shown ≡ k.now.shown
  in_place =
      order_same k.archive a n v agree k.now.shown all_below
      ∙ settled (shown_name k.archive) k.now.shown
      (ascending_sorted k.archive k.now.shown ascending)

  -- the names of what is shown ascend in it
  pub up : AreAscending a k.now.shown
  up =
      subst (AreAscending a) in_place
      (ascending_in_order a k.now.shown
      (apart_same k.archive a n v agree k.now.shown all_below
      (ascending_apart k.archive k.now.shown ascending)))

  name_count : length a.names ≡ n + length p.names
  name_count =
      let e = ap length keeps.names ∙ length-append (take n k.archive.names) p.names in
      let t = length-take-le n k.archive.names kept.there.names in
      omega (arith, e, t)

  text_count : length a.texts ≡ v + length p.texts
  text_count =
      let e = ap length keeps.texts ∙ length-append (take v k.archive.texts) p.texts in
      let t = length-take-le v k.archive.texts kept.there.versions in
      omega (arith, e, t)

  -- the first new name and text
  new_name : (name : List ℕ) (more : List (List ℕ)) → p.names ≡ name ∷ more → name_of a n ≡ name
  new_name name more is =
      let t : n ≡ length (take n k.archive.names) =
      sym (length-take-le n k.archive.names kept.there.names) in
      ap (λ l. slice_index_or l n []) (keeps.names ∙ ap (λ l. take n k.archive.names ++ l) is)
      ∙ ap (λ m. slice_index_or (take n k.archive.names ++ name ∷ more) m []) t
      ∙ get_or-append_seam (take n k.archive.names) name more []

  new_text : (text : List ℕ) (more : List (List ℕ)) → p.texts ≡ text ∷ more
      → slice_index_or a.texts v [] ≡ text
  new_text text more is =
      let t : v ≡ length (take v k.archive.texts) =
      sym (length-take-le v k.archive.texts kept.there.versions) in
      ap (λ l. slice_index_or l v []) (keeps.texts ∙ ap (λ l. take v k.archive.texts ++ l) is)
      ∙ ap (λ m. slice_index_or (take v k.archive.texts ++ text ∷ more) m []) t
      ∙ get_or-append_seam (take v k.archive.texts) text more []

  -- no file that is shown has a new name
  others_from : (s : Shown) (name : List ℕ) → name_of a s.name ≡ name → (ss : List Shown)
      → AllByRecursion (λ (r : Shown). (r.name < n) × (r.version < v)) ss
      → has_file (files_of k.archive ss) name ≡ false → AllByRecursion (IsOther a s) ss
  others_from s name is [] below none = tt
  others_from s name is (r ∷ ss) below none =
      let parts =
      split (bytes_eq (name_of k.archive r.name) name)
      (has_file (files_of k.archive ss) name) none in (
        other_turned (name_of a r.name) (name_of a s.name)
            ((λ i. bytes_eq (agree.names r.name below.0.0 i) (is i)) ∙ parts.0),
        others_from s name is ss below.1 parts.1,
      )
    where
      split : (x y : Bool) → (x || y) ≡ false → (x ≡ false) × (y ≡ false)
      split true y e = cc
      split false y e = (refl, e)

  module _ (marks frames : List FileLine) (fs : List File) (next : Option (List ℕ))
      (ms gs : List Place)
      (hides : Hides a k.now.shown p.turn.hides)
      (shows : Shows a (without p.turn.hides k.now.shown) p.turn.shows)
      (few : IsFew a p.turn k.now)
      (below : AllByRecursion
      (λ (s : Shown). (s.name < p.turn.names) × (s.version < p.turn.versions)) p.turn.shows)
      (wanted : other_wanted p.turn.wanted k.now.wanted ≡ next)
      (names : p.turn.names ≡ n + length p.names) (versions : p.turn.versions ≡ v + length p.texts)
      (are_marks : IsDifference p.turn.marks k.now.marks marks)
      (are_frames : IsDifference p.turn.frames k.now.frames frames)
      (marks_named : Places marks p.turn.names) (frames_named : Places frames p.turn.names)
      (all_names : (m : ℕ) → n ≤ m → m < p.turn.names → shows_name m p.turn.shows ≡ true)
      (all_versions : (m : ℕ) → v ≤ m → m < p.turn.versions → shows_version m p.turn.shows ≡ true)
      (files_are :
      files_of a (in_order (shown_name a) (without p.turn.hides k.now.shown ++ p.turn.shows)) ≡ fs)
      (marks_are : map (place_in a) marks ≡ ms) (frames_are : map (place_in a) frames ≡ gs) where
    all_then : AllByRecursion
        (λ (s : Shown). (s.name < p.turn.names) × (s.version < p.turn.versions)) k.now.shown
    all_then =
        all_implied (λ (s : Shown). (s.name < n) × (s.version < v))
        (λ (s : Shown). (s.name < p.turn.names) × (s.version < p.turn.versions))
        (λ s is. (omega (arith, is.0, names), omega (arith, is.1, versions))) k.now.shown all_below

    pub file_leads : LeadsTo k p (record {
      profile = k.archive.profile;
      bounds = k.now.bounds;
      files = fs;
      wanted = next;
      marks = ms;
      frames = gs;
    }) a
    file_leads = record {
      turn = record {
        hides_rise = hides.rise;
        shows_rise = shows.rise;
        apart = hides.apart;
        apart_then = shows.apart;
        shown = hides.back;
        others = shows.taken;
        marks = ap (edited (turned_edits p.turn.marks)) are_marks.on ∙ are_marks.back;
        frames = ap (edited (turned_edits p.turn.frames)) are_frames.on ∙ are_frames.back;
        few = few;
      };
      there = record {
        shown =
            all_in_order (shown_name a)
            (λ (s : Shown). (s.name < p.turn.names) × (s.version < p.turn.versions))
            (without p.turn.hides k.now.shown ++ p.turn.shows)
            (all-join _ (without p.turn.hides k.now.shown) p.turn.shows
            (all-filter _ _ k.now.shown all_then) below);
        marks = subst (λ ps. Places ps p.turn.names) (sym are_marks.on) marks_named;
        frames = subst (λ ps. Places ps p.turn.names) (sym are_frames.on) frames_named;
        names = omega (arith, names, name_count);
        versions = omega (arith, versions, text_count);
      };
      world = λ i. record {
        profile = keeps.profile i;
        bounds = k.now.bounds;
        files = files_are i;
        wanted = wanted i;
        marks = (ap (map (place_in a)) are_marks.on ∙ marks_are) i;
        frames = (ap (map (place_in a)) are_frames.on ∙ frames_are) i;
      };
      next = record {
        names = omega (arith, names);
        versions = omega (arith, versions);
        all_names = λ m above below. any_shown (λ (s : Shown). nat_eq s.name m) (shown_name a)
            (without p.turn.hides k.now.shown) p.turn.shows
            (all_names m above below);
        all_versions = λ m above below. any_shown (λ (s : Shown). nat_eq s.version m) (shown_name a)
            (without p.turn.hides k.now.shown) p.turn.shows
            (all_versions m above below);
      };
      all = record {
        names = omega (arith, names, name_count);
        versions = omega (arith, versions, text_count);
      };
    }

  -- places of the present world are the same places in it
  pub same_places : (ps : List FileLine) → Places ps n
      → map (place_in a) ps ≡ map (place_in k.archive) ps
  same_places ps named = places_same k.archive a n v agree ps named

  same_without : (name : List ℕ) (ps : List FileLine) → Places ps n
      → map (place_in a) (places_without k.archive name ps)
      ≡ without_places name (map (place_in k.archive) ps)
  same_without name ps named =
      same_places (places_without k.archive name ps) (all-filter _ _ ps named)
      ∙ map-filter (place_in k.archive) (λ q. not (is_in name q)) ps

-- ---- a file goes
module _ (k : Kept) (p : Planned) (h : Shown) (marks frames : Edits)
    (kept : IsKept k.rooms k.archive k.now)
    (ascending : AreAscending k.archive k.now.shown) (among : IsAmong k.now.shown h)
    (profile : p.profile ≡ k.archive.profile) (names : p.names ≡ []) (texts : p.texts ≡ [])
    (turn : p.turn ≡ record {
      hides = h ∷ [];
      shows = [];
      wanted = None;
      marks = marks;
      frames = frames;
      names = k.now.names;
      versions = k.now.versions;
    })
    (are_marks : IsDifference marks k.now.marks
    (places_without k.archive (name_of k.archive h.name) k.now.marks))
    (are_frames : IsDifference frames k.now.frames
    (places_without k.archive (name_of k.archive h.name) k.now.frames)) where
  abbrev name : List ℕ
  name = name_of k.archive h.name

  abbrev planned : Planned
  planned = record {
    profile = k.archive.profile;
    names = [];
    texts = [];
    turn = record {
      hides = h ∷ [];
      shows = [];
      wanted = None;
      marks = marks;
      frames = frames;
      names = k.now.names;
      versions = k.now.versions;
    };
  }

  is_planned : p ≡ planned
  is_planned = λ i.
      record { profile = profile i; names = names i; texts = texts i; turn = turn i }

  unload_leads : (a : Archived) → Keeps k.archive k.now planned a
      → LeadsTo k planned (unloaded (world_in k.archive k.now) name) a
  unload_leads a keeps =
      let rest = without (h ∷ []) k.now.shown in
      let hides = hides_one a k.now.shown h among.0 among.1 (up k planned kept ascending a keeps) in
      let below = all-filter _ (λ (s : Shown). not (is_among (names_of (h ∷ [])) s.name))
      k.now.shown (all_below k planned kept ascending a keeps) in
      file_leads k planned kept ascending a keeps (places_without k.archive name k.now.marks)
      (places_without k.archive name k.now.frames) _ _ _ _
      hides (shows_none a rest hides.left) (few_small a planned.turn k.now (omega arith)) tt refl
      (omega arith) (omega arith) are_marks are_frames
      (all-filter _ _ k.now.marks kept.there.marks) (all-filter _ _ k.now.frames kept.there.frames)
      (λ m above below.
      none_new k.now.names k.now.names m (shows_name m [] ≡ true) refl above below)
      (λ m above below.
      none_new k.now.versions k.now.versions m (shows_version m [] ≡ true) refl above below)
      (ap (λ l. files_of a (in_order (shown_name a) l)) (append-nil rest)
      ∙ ap (files_of a) (settled (shown_name a) rest (ascending_sorted a rest hides.left))
      ∙ files_same k.archive a k.now.names k.now.versions
      (agree k planned kept ascending a keeps) rest below
      ∙ files_without k.archive k.now.shown h among.0 among.1 ascending)
      (same_without k planned kept ascending a keeps name k.now.marks kept.there.marks)
      (same_without k planned kept ascending a keeps name k.now.frames kept.there.frames)

  pub unload_planned : IsPlan k p (unloaded (world_in k.archive k.now) name)
  unload_planned =
      subst (λ q. IsPlan k q (unloaded (world_in k.archive k.now) name))
      (sym is_planned) (refl, unload_leads)

-- ---- a file comes
module _ (k : Kept) (p : Planned) (name text : List ℕ) (kept : IsKept k.rooms k.archive k.now)
    (ascending : AreAscending k.archive k.now.shown)
    (fresh : has_file (files_of k.archive k.now.shown) name ≡ false)
    (profile : p.profile ≡ k.archive.profile) (names : p.names ≡ name ∷ []) (texts : p.texts ≡ text
    ∷ []) (number version : ℕ)
    (turn : p.turn ≡ record {
      hides = [];
      shows = record { name = k.now.names; version = k.now.versions } ∷ [];
      wanted = None;
      marks = each [];
      frames = each [];
      names = number;
      versions = version;
    })
    (one_name : number ≡ k.now.names + 1) (one_version : version ≡ k.now.versions + 1) where
  abbrev new : Shown
  new = record { name = k.now.names; version = k.now.versions }

  abbrev planned_load : Planned
  planned_load = record {
    profile = k.archive.profile;
    names = name ∷ [];
    texts = text ∷ [];
    turn = record {
      hides = [];
      shows = new ∷ [];
      wanted = None;
      marks = each [];
      frames = each [];
      names = number;
      versions = version;
    };
  }

  is_planned_load : p ≡ planned_load
  is_planned_load = λ i.
      record { profile = profile i; names = names i; texts = texts i; turn = turn i }

  load_leads : (a : Archived) → Keeps k.archive k.now planned_load a
      → LeadsTo k planned_load (loaded (world_in k.archive k.now) name text) a
  load_leads a keeps =
      let rest = without [] k.now.shown in
      let all = all_below k planned_load kept ascending a keeps in
      let named = new_name k planned_load kept ascending a keeps name [] refl in
      let same : rest ≡ k.now.shown = without_none k.now.shown in
      let hides = hides_none a k.now.shown (up k planned_load kept ascending a keeps) in
      let other : AllByRecursion (IsOther a new) rest =
      subst (AllByRecursion (IsOther a new)) (sym same)
      (others_from k planned_load kept ascending a keeps new name named k.now.shown all fresh) in
      file_leads k planned_load kept ascending a keeps k.now.marks k.now.frames _ _ _ _
      hides (shows_one a rest new hides.left other)
      (few_small a planned_load.turn k.now (omega arith))
      ((omega (arith, one_name), omega (arith, one_version)), tt) refl
      (omega (arith, one_name)) (omega (arith, one_version)) (record { on = refl; back = refl })
      (record { on = refl; back = refl })
      (more_named k.now.marks kept.there.marks) (more_named k.now.frames kept.there.frames)
      (λ m above below. only_new k.now.names number m one_name above below)
      (λ m above below. only_new k.now.versions version m one_version above below)
      (ap (files_of a) (order_more a rest new hides.left other) ∙ file_put a rest new hides.left
      ∙ (λ i. with_file (record {
        name = named i;
        bytes = new_text k planned_load kept ascending a keeps text [] refl i;
      })
      ((ap (files_of a) same ∙ files_same k.archive a k.now.names k.now.versions
      (agree k planned_load kept ascending a keeps) k.now.shown all) i)))
      (same_places k planned_load kept ascending a keeps k.now.marks kept.there.marks)
      (same_places k planned_load kept ascending a keeps k.now.frames kept.there.frames)
    where
      more_named : (ps : List FileLine) → Places ps k.now.names → Places ps number
      more_named ps all = all_implied (λ (q : FileLine). q.name < k.now.names)
          (λ (q : FileLine). q.name < number) (λ q is. omega (arith, is, one_name)) ps all

  pub load_planned : IsPlan k p (loaded (world_in k.archive k.now) name text)
  load_planned =
      subst (λ q. IsPlan k q (loaded (world_in k.archive k.now) name text))
      (sym is_planned_load) (refl, load_leads)

-- ---- a file has other bytes
module _ (k : Kept) (p : Planned) (h : Shown) (text : List ℕ) (marks frames : Edits)
    (kept : IsKept k.rooms k.archive k.now)
    (ascending : AreAscending k.archive k.now.shown) (among : IsAmong k.now.shown h)
    (profile : p.profile ≡ k.archive.profile) (names : p.names ≡ []) (texts : p.texts ≡ text ∷ [])
    (version : ℕ)
    (turn : p.turn ≡ record {
      hides = h ∷ [];
      shows = record { name = h.name; version = k.now.versions } ∷ [];
      wanted = None;
      marks = marks;
      frames = frames;
      names = k.now.names;
      versions = version;
    })
    (one_version : version ≡ k.now.versions + 1)
    (are_marks : IsDifference marks k.now.marks
    (places_without k.archive (name_of k.archive h.name) k.now.marks))
    (are_frames : IsDifference frames k.now.frames
    (places_without k.archive (name_of k.archive h.name) k.now.frames)) where
  abbrev reloaded_name : List ℕ
  reloaded_name = name_of k.archive h.name

  abbrev changed : Shown
  changed = record { name = h.name; version = k.now.versions }

  abbrev planned_reload : Planned
  planned_reload = record {
    profile = k.archive.profile;
    names = [];
    texts = text ∷ [];
    turn = record {
      hides = h ∷ [];
      shows = changed ∷ [];
      wanted = None;
      marks = marks;
      frames = frames;
      names = k.now.names;
      versions = version;
    };
  }

  is_planned_reload : p ≡ planned_reload
  is_planned_reload = λ i.
      record { profile = profile i; names = names i; texts = texts i; turn = turn i }

  reload_leads : (a : Archived) → Keeps k.archive k.now planned_reload a
      → LeadsTo k planned_reload (reloaded (world_in k.archive k.now) reloaded_name text) a
  reload_leads a keeps =
      let rest = without (h ∷ []) k.now.shown in
      let all = all_below k planned_reload kept ascending a keeps in
      let up_now = up k planned_reload kept ascending a keeps in
      let same = agree k planned_reload kept ascending a keeps in
      let hides = hides_one a k.now.shown h among.0 among.1 up_now in
      let there : (h.name < k.now.names) × (h.version < k.now.versions) =
      all_among (λ (s : Shown). (s.name < k.now.names) × (s.version < k.now.versions)) k.now.shown h
      among.0 among.1 all in
      let other : AllByRecursion (IsOther a changed) rest =
      others a k.now.shown h among.0 among.1 up_now in
      let below =
      all-filter _ (λ (s : Shown). not (is_among (names_of (h ∷ [])) s.name)) k.now.shown all in
      file_leads k planned_reload kept ascending a keeps
      (places_without k.archive reloaded_name k.now.marks)
      (places_without k.archive reloaded_name k.now.frames) _ _ _ _
      hides (shows_one a rest changed hides.left other)
      (few_small a planned_reload.turn k.now (omega arith))
      ((there.0, omega (arith, one_version)), tt) refl
      (omega arith) (omega (arith, one_version)) are_marks are_frames
      (all-filter _ _ k.now.marks kept.there.marks) (all-filter _ _ k.now.frames kept.there.frames)
      (λ m above below.
      none_new k.now.names k.now.names m (shows_name m (changed ∷ []) ≡ true) refl above below)
      (λ m above below. only_new k.now.versions version m one_version above below)
      (ap (files_of a) (order_more a rest changed hides.left other)
      ∙ file_put a rest changed hides.left
      ∙ (λ i. with_file (record {
        name = same.names h.name there.0 i;
        bytes = new_text k planned_reload kept ascending a keeps text [] refl i;
      })
      ((files_same k.archive a k.now.names k.now.versions same rest below
      ∙ files_without k.archive k.now.shown h among.0 among.1 ascending) i)))
      (same_without k planned_reload kept ascending a keeps reloaded_name
      k.now.marks kept.there.marks)
      (same_without k planned_reload kept ascending a keeps reloaded_name
      k.now.frames kept.there.frames)

  pub reload_planned : IsPlan k p (reloaded (world_in k.archive k.now) reloaded_name text)
  reload_planned =
      subst (λ q. IsPlan k q (reloaded (world_in k.archive k.now) reloaded_name text))
      (sym is_planned_reload) (refl, reload_leads)

-- ---- a file gets another name
module _ (k : Kept) (p : Planned) (h : Shown) (new_bytes : List ℕ) (marks frames : Edits)
    (kept : IsKept k.rooms k.archive k.now)
    (ascending : AreAscending k.archive k.now.shown) (among : IsAmong k.now.shown h)
    (fresh : has_file (files_of k.archive k.now.shown) new_bytes ≡ false)
    (profile : p.profile ≡ k.archive.profile) (names : p.names ≡ new_bytes ∷ []) (texts : p.texts ≡
    []) (number : ℕ)
    (turn : p.turn ≡ record {
      hides = h ∷ [];
      shows = record { name = k.now.names; version = h.version } ∷ [];
      wanted = None;
      marks = marks;
      frames = frames;
      names = number;
      versions = k.now.versions;
    })
    (one_name : number ≡ k.now.names + 1)
    (are_marks : IsDifference marks k.now.marks (in_order (key_then k.archive k.now.names new_bytes)
    (map (renumbered k.archive (name_of k.archive h.name) k.now.names) k.now.marks)))
    (are_frames : IsDifference frames k.now.frames
    (map (renumbered k.archive (name_of k.archive h.name) k.now.names) k.now.frames)) where
  abbrev old_bytes : List ℕ
  old_bytes = name_of k.archive h.name

  abbrev moved : Shown
  moved = record { name = k.now.names; version = h.version }

  abbrev renumber : FileLine → FileLine
  renumber = renumbered k.archive old_bytes k.now.names

  abbrev planned_rename : Planned
  planned_rename = record {
    profile = k.archive.profile;
    names = new_bytes ∷ [];
    texts = [];
    turn = record {
      hides = h ∷ [];
      shows = moved ∷ [];
      wanted = None;
      marks = marks;
      frames = frames;
      names = number;
      versions = k.now.versions;
    };
  }

  is_planned_rename : p ≡ planned_rename
  is_planned_rename = λ i.
      record { profile = profile i; names = names i; texts = texts i; turn = turn i }

  module _ (a : Archived) (keeps : Keeps k.archive k.now planned_rename a) where
    named : name_of a k.now.names ≡ new_bytes
    named = new_name k planned_rename kept ascending a keeps new_bytes [] refl

    still : (m : ℕ) → m < k.now.names → name_of a m ≡ name_of k.archive m
    still m below = (agree k planned_rename kept ascending a keeps).names m below

    then_new : name_then k.archive k.now.names new_bytes k.now.names ≡ name_of a k.now.names
    then_new =
        ap (λ b. cond b new_bytes (name_of k.archive k.now.names)) (number_itself k.now.names)
        ∙ sym named

    then_still : (m : ℕ) → m < k.now.names
        → name_then k.archive k.now.names new_bytes m ≡ name_of a m
    then_still m below = ap (λ b. cond b new_bytes (name_of k.archive m))
        (number_below m k.now.names below) ∙ sym (still m below)

    all_named : (ps : List FileLine) → Places ps k.now.names → Places (map renumber ps) number
    all_named [] all = tt
    all_named (q ∷ ps) all = (
      elim (is_of k.archive old_bytes q) as
          (λ b. (cond b (record q { name = k.now.names }) q).name < number)
          [ true ↦ omega (arith, one_name) | false ↦ omega (arith, one_name, all.0) ],
      all_named ps all.1,
    )

    all_keys : (ps : List FileLine) → Places ps k.now.names
        → AllByRecursion (λ (q : FileLine). key_then k.archive k.now.names new_bytes q
        ≡ place_key (place_in a q)) (map renumber ps)
    all_keys [] all = tt
    all_keys (q ∷ ps) all = (
      elim (is_of k.archive old_bytes q)
          as (λ b. key_then k.archive k.now.names new_bytes
          (cond b (record q { name = k.now.names }) q)
          ≡ place_key (place_in a (cond b (record q { name = k.now.names }) q))) [
            | true ↦ ap (λ x. place_key (record { file = x; line = q.line })) then_new
            | false ↦ ap (λ x. place_key (record { file = x; line = q.line }))
                (then_still q.name all.0)
          ],
      all_keys ps all.1,
    )

    all_places : (ps : List FileLine) → Places ps k.now.names
        → map (place_in a) (map renumber ps)
        ≡ renamed_places old_bytes new_bytes (map (place_in k.archive) ps)
    all_places [] all = refl
    all_places (q ∷ ps) all =
        let first : place_in a (renumber q)
        ≡ renamed_place old_bytes new_bytes (place_in k.archive q) =
        elim (is_of k.archive old_bytes q)
        as (λ b. place_in a (cond b (record q { name = k.now.names }) q)
        ≡ cond b (record (place_in k.archive q) { file = new_bytes }) (place_in k.archive q)) [
          | true ↦ ap (λ x. record { file = x; line = q.line }) named
          | false ↦ ap (λ x. record { file = x; line = q.line }) (still q.name all.0)
        ] in
        λ i. first i ∷ all_places ps all.1 i

    rename_leads : LeadsTo k planned_rename
        (renamed (world_in k.archive k.now) old_bytes new_bytes) a
    rename_leads =
        let rest = without (h ∷ []) k.now.shown in
        let all = all_below k planned_rename kept ascending a keeps in
        let hides =
        hides_one a k.now.shown h among.0 among.1 (up k planned_rename kept ascending a keeps) in
        let there : (h.name < k.now.names) × (h.version < k.now.versions) =
        all_among (λ (s : Shown). (s.name < k.now.names) × (s.version < k.now.versions)) k.now.shown
        h among.0 among.1 all in
        let other : AllByRecursion (IsOther a moved) rest =
        all-filter _ _ k.now.shown (others_from k planned_rename kept ascending a keeps moved
        new_bytes named k.now.shown all fresh) in
        let below =
        all-filter _ (λ (s : Shown). not (is_among (names_of (h ∷ [])) s.name)) k.now.shown all in
        file_leads k planned_rename kept ascending a keeps
        (in_order (key_then k.archive k.now.names new_bytes) (map renumber k.now.marks))
        (map renumber k.now.frames) _ _ _ _
        hides (shows_one a rest moved hides.left other)
        (few_small a planned_rename.turn k.now (omega arith))
        ((omega (arith, one_name), there.1), tt) refl
        (omega (arith, one_name)) (omega arith) are_marks are_frames
        (all_in_order (key_then k.archive k.now.names new_bytes) _ (map renumber k.now.marks)
        (all_named k.now.marks kept.there.marks))
        (all_named k.now.frames kept.there.frames)
        (λ m above below. only_new k.now.names number m one_name above below)
        (λ m above below. none_new k.now.versions k.now.versions m
        (shows_version m (moved ∷ []) ≡ true) refl above below)
        (ap (files_of a) (order_more a rest moved hides.left other)
        ∙ file_put a rest moved hides.left
        ∙ (λ i. with_file (record {
          name = named i;
          bytes = ((agree k planned_rename kept ascending a keeps).bytes h.version there.1
              ∙ sym (text_shown k.archive k.now.shown h among.0 among.1 ascending)) i;
        }) ((files_same k.archive a k.now.names k.now.versions
        (agree k planned_rename kept ascending a keeps) rest below
        ∙ files_without k.archive k.now.shown h among.0 among.1 ascending) i)))
        (map_in_order (key_then k.archive k.now.names new_bytes) place_key (place_in a)
        (map renumber k.now.marks) (all_keys k.now.marks kept.there.marks)
        ∙ ap (in_order place_key) (all_places k.now.marks kept.there.marks))
        (all_places k.now.frames kept.there.frames)

  pub rename_planned : IsPlan k p (renamed (world_in k.archive k.now) old_bytes new_bytes)
  rename_planned =
      subst (λ q. IsPlan k q (renamed (world_in k.archive k.now) old_bytes new_bytes))
      (sym is_planned_rename) (refl, rename_leads)
