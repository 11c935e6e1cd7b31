-- The texts that an option takes play no part in what clap finds: that is the same where it takes
-- any text.
use Rattle.std.proofs.Common.{◌≡◌, ◌∙◌, ◌&&◌, ◌||◌, ℕ, Bool, cond, zero, suc, refl, sym, ap, ap₂}
use Rattle.std.proofs.Common.{List, [], ◌∷◌, map, length, drop, Option, Some, None}
use Rattle.std.specs.List.{find, fold}
use Rattle.std.specs.Option.{option_map}
use Rattle.std.specs.Str.{bytes_eq, chars}
use Rattle.std.specs.Prelude.{encode_utf8, slice_get, pos, negsuc}
use Rattle.std.specs.Borrow.{Bor}
use Rattle.std.proofs.lemmas.List.Folds.{fold-map}
use Rattle.clap.specs.Facts.{parser_of_value}
use Rattle.clap.specs.Lexer.{long_of, short_of}
use Rattle.clap.specs.Values.{reading_of}
use Rattle.clap.specs.Walk.{Held, Names, Outcome, Row, Rule, Step, Text, Waiting, Walk, idle}
use Rattle.clap.specs.Walk.{option, positional, done, waits, plain, refused, next, trailing}
use Rattle.clap.specs.Walk.{subcommand, value, action_of, after_flag, after_step, answers_to}
use Rattle.clap.specs.Walk.{arg_by_id, arg_by_index, arg_by_long, arg_by_short, attached_value}
use Rattle.clap.specs.Walk.{bundle, bundle_met, bundle_step, default_rows, finished, flag_met}
use Rattle.clap.specs.Walk.{has_row, is_multiple, is_pending, long_met, long_or_other, long_word}
use Rattle.clap.specs.Walk.{next_position, nothing_held, option_met, option_word, plain_word}
use Rattle.clap.specs.Walk.{positional_held, pushed, reacted, reading_by, rows_after, settled}
use Rattle.clap.specs.Walk.{settled_rows, short_met, short_or_plain, stop_after, subcommand_met}
use Rattle.clap.specs.Walk.{subcommand_or_other, takes_several, takes_values, to_positional, used}
use Rattle.clap.specs.Walk.{used_as, used_by_id, walk, walk_from, walked, walked_from, with_default}
use Rattle.clap.specs.Walk.{word_met}
use Rattle.clap.specs.Simple.{App, Shape, argument_words, built, entered, label_of, names_of}
use Rattle.clap.specs.Simple.{rows_at, subcommand_of}
use Rattle.clap.specs.declared.builder.ValueParser.{ValueParser}
use Rattle.clap.specs.declared.builder.ValueParser.TheVariants as parsers
use Rattle.clap.proofs.WalkLemmas.{find-map}
use Rattle.cb_words.specs.Jobs.{browse_app}
use Rattle.cb_words.specs.Commands.{browse_app_of}

-- any text in the place of some
abbrev loose : ValueParser → ValueParser
loose (parsers.Names names) = parsers.String
loose parser = parser

abbrev loose_rule : Rule → Rule
loose_rule a = record a { parser = option_map loose a.parser }

abbrev loose_rules : List Rule → List Rule
loose_rules = map loose_rule

abbrev loose_shape : Shape → Shape
loose_shape s = record s { rules = loose_rules s.rules }

abbrev loose_app : App → App
loose_app a = record a { subs = map loose_shape a.subs }

-- ---- one use of an argument

reads : (a : Rule) → reading_by (loose_rule a) ≡ reading_by a
reads a = given a.parser
  where
    each : (p : ValueParser) → reading_of (loose p) ≡ reading_of p
    each parsers.String = refl
    each parsers.NonEmptyString = refl
    each parsers.Bool = refl
    each parsers.Boolish = refl
    each parsers.Falsey = refl
    each (parsers.Signed (pos low) high) = refl
    each (parsers.Signed (negsuc low) high) = refl
    each (parsers.Unsigned low high) = refl
    each parsers.Float = refl
    each parsers.Char = refl
    each (parsers.Names names) = refl
    each (parsers.Values values) = refl

    given : (o : Option ValueParser)
        → reading_of (parser_of_value (option_map loose o)) ≡ reading_of (parser_of_value o)
    given None = refl
    given (Some p) = each p

uses : (a : Rule) (values : List Text) (rows : List Row)
    → used (loose_rule a) values rows ≡ used a values rows
uses a [] rows = ap (λ how. used_as (action_of a) a.id how a.missing rows) (reads a)
uses a (v ∷ vs) rows = ap (λ how. used_as (action_of a) a.id how (v ∷ vs) rows) (reads a)

settles_rows : (c : List Rule) (p : Option (Text × List Text)) (rows : List Row)
    → settled_rows (loose_rules c) p rows ≡ settled_rows c p rows
settles_rows c None rows = refl
settles_rows c (Some p) rows =
    ap (λ o. used_by_id o p.1 rows) (sym (find-map (λ a. bytes_eq a.id p.0) loose_rule c))
    ∙ go (arg_by_id c p.0)
  where
    go : (o : Option Rule) → used_by_id (option_map loose_rule o) p.1 rows ≡ used_by_id o p.1 rows
    go None = refl
    go (Some a) = uses a p.1 rows

settles : (c : List Rule) (h : Held) → settled (loose_rules c) h ≡ settled c h
settles c h =
    ap (λ rows. record h { rows = rows; pending = None }) (settles_rows c h.pending h.rows)

reacts : (c : List Rule) (a : Rule) (values : List Text) (h : Held)
    → reacted (loose_rules c) (loose_rule a) values h ≡ reacted c a values h
reacts c a values h = ap (λ rows. record h { rows = rows; pending = None })
    (uses a values (settled (loose_rules c) h).rows
    ∙ ap (λ (k : Held). used a values k.rows) (settles c h))

-- ---- flags

meets_option : (c : List Rule) (a : Rule) (v : Option Text) (h : Held)
    → option_met (loose_rules c) (loose_rule a) v h ≡ option_met c a v h
meets_option c a (Some v) h = ap (λ k. (k, done)) (reacts c a (v ∷ []) h)
meets_option c a None h =
    ap (λ (k : Held). (record k { pending = Some (a.id, []) }, waits a.id)) (settles c h)

meets_flag : (c : List Rule) (a : Rule) (v : Option Text) (h : Held)
    → flag_met (loose_rules c) (loose_rule a) v h ≡ flag_met c a v h
meets_flag c a (Some v) h = refl
meets_flag c a None h = ap (λ k. (k, done)) (reacts c a [] h)

meets_long : (c : List Rule) (o : Option Rule) (v : Option Text) (h : Held)
    → long_met (loose_rules c) (option_map loose_rule o) v h ≡ long_met c o v h
meets_long c None v h = refl
meets_long c (Some a) v h = ap₂ (cond (takes_values a)) (meets_option c a v h) (meets_flag c a v h)

meets_short : (c : List Rule) (o : Option Rule) (rest : Text) (h : Held)
    (f g : Held → Held × Outcome) → ((k : Held) → f k ≡ g k)
    → short_met (loose_rules c) (option_map loose_rule o) rest h f ≡ short_met c o rest h g
meets_short c None rest h f g same = refl
meets_short c (Some a) rest h f g same =
    ap₂ (cond (takes_values a)) (meets_option c a (attached_value rest) h)
    (ap f (reacts c a [] h) ∙ same (reacted c a [] h))

bundles_on : (c : List Rule) (o : Option ℕ) (flags : Text) (skip : ℕ) (so_far : Outcome) (h : Held)
    (f g : Text → ℕ → Outcome → Held → Held × Outcome)
    → ((t : Text) (n : ℕ) (met : Outcome) (k : Held) → f t n met k ≡ g t n met k)
    → bundle_step (loose_rules c) o flags skip so_far h f ≡ bundle_step c o flags skip so_far h g
bundles_on c None flags skip so_far h f g same = refl
bundles_on c (Some x) flags zero so_far h f g same =
    let rest = drop (length (encode_utf8 x)) flags in
    ap (λ o. short_met (loose_rules c) o rest h (f rest 0 done)) (sym (find-map _ loose_rule c))
    ∙ meets_short c (arg_by_short c x) rest h (f rest 0 done) (g rest 0 done) (same rest 0 done)
bundles_on c (Some x) flags (suc skip) so_far h f g same =
    same (drop (length (encode_utf8 x)) flags) skip so_far h

bundles : (c : List Rule) (k : ℕ) (flags : Text) (skip : ℕ) (so_far : Outcome) (h : Held)
    → bundle_met (loose_rules c) k flags skip so_far h ≡ bundle_met c k flags skip so_far h
unfolding bundle_met
bundles c zero flags skip so_far h = refl
bundles c (suc k) flags skip so_far h =
    bundles_on c (slice_get (chars flags) 0) flags skip so_far h (bundle_met (loose_rules c) k)
    (bundle_met c k) (bundles c k)

-- ---- one word

takes_word : (c : List Rule) (o : Option Rule) (id word : Text) (h : Held)
    → option_word (option_map loose_rule o) id word h ≡ option_word o id word h
takes_word c None id word h = refl
takes_word c (Some a) id word h = refl

is_plain_word : (c : List Rule) (waiting : Waiting) (word : Text) (h : Held)
    → plain_word (loose_rules c) waiting word h ≡ plain_word c waiting word h
is_plain_word c idle word h = refl
is_plain_word c positional word h = refl
is_plain_word c (option id) word h = ap (λ (met : Held × Waiting). (met.0, next met.1))
    (ap (λ o. option_word o id word h) (sym (find-map _ loose_rule c))
    ∙ takes_word c (arg_by_id c id) id word h)

goes_on : (c : List Rule) (waiting : Waiting) (word : Text) (h : Held) (met : Outcome)
    → after_flag (loose_rules c) waiting word h met ≡ after_flag c waiting word h met
goes_on c waiting word h done = refl
goes_on c waiting word h (waits id) = refl
goes_on c waiting word h plain = is_plain_word c waiting word h
goes_on c waiting word h refused = is_plain_word c waiting word h

goes_from : (c : List Rule) (waiting : Waiting) (word : Text) (met found : Held × Outcome)
    → met ≡ found
    → after_flag (loose_rules c) waiting word met.0 met.1
    ≡ after_flag c waiting word found.0 found.1
goes_from c waiting word met found same =
    ap (λ (m : Held × Outcome). after_flag (loose_rules c) waiting word m.0 m.1) same
    ∙ goes_on c waiting word found.0 found.1

is_long_word : (c : List Rule) (waiting : Waiting) (word name : Text) (v : Option Text) (h : Held)
    → long_word (loose_rules c) waiting word name v h ≡ long_word c waiting word name v h
is_long_word c waiting word name v h =
    goes_from c waiting word (long_met (loose_rules c) (arg_by_long (loose_rules c) name) v h)
    (long_met c (arg_by_long c name) v h)
    (ap (λ o. long_met (loose_rules c) o v h) (sym (find-map _ loose_rule c))
    ∙ meets_long c (arg_by_long c name) v h)

is_short_word : (c : List Rule) (waiting : Waiting) (word : Text) (o : Option Text) (h : Held)
    → short_or_plain (loose_rules c) waiting word o h ≡ short_or_plain c waiting word o h
is_short_word c waiting word None h = is_plain_word c waiting word h
is_short_word c waiting word (Some flags) h =
    goes_from c waiting word (bundle (loose_rules c) flags h) (bundle c flags h)
    (bundles c (length flags) flags h.skip plain (record h { skip = 0 }))

is_flag_word : (c : List Rule) (waiting : Waiting) (word : Text)
    (o : Option (Text × Option Text)) (h : Held)
    → long_or_other (loose_rules c) waiting word o h ≡ long_or_other c waiting word o h
is_flag_word c waiting word None h = is_short_word c waiting word (short_of word) h
is_flag_word c waiting word (Some p) h = is_long_word c waiting word p.0 p.1 h

is_other_word : (c : List Rule) (o : Option Text) (waiting : Waiting) (position : ℕ)
    (word : Text) (h : Held)
    → subcommand_or_other (loose_rules c) o waiting position word h
    ≡ subcommand_or_other c o waiting position word h
is_other_word c (Some name) waiting position word h = refl
is_other_word c None waiting position word h =
    ap (cond (bytes_eq word (45 ∷ 45 ∷ [])) (h, trailing position))
    (is_flag_word c waiting word (long_of word) h)

meets_word : (c : List Rule) (names : Names) (is_trailing : Bool) (waiting : Waiting) (position : ℕ)
    (word : Text) (h : Held)
    → word_met (loose_rules c) names is_trailing waiting position word h
    ≡ word_met c names is_trailing waiting position word h
meets_word c names is_trailing waiting position word h =
    ap (cond is_trailing (h, value))
    (is_other_word c (subcommand_met names waiting word) waiting position word h)

-- ---- the walk

holds : (c : List Rule) (a : Rule) (word : Text) (h : Held)
    → positional_held (loose_rules c) (loose_rule a) word h ≡ positional_held c a word h
holds c a word h =
    ap (λ k. pushed a.id word (cond (is_pending a h.pending && takes_several a) h k)) (settles c h)

fills : (c : List Rule) (o : Option Rule) (word : Text) (w : Walk) (h : Held)
    → to_positional (loose_rules c) (option_map loose_rule o) word w h ≡ to_positional c o word w h
fills c None word w h = refl
fills c (Some a) word w h = ap (λ k. record {
  held = k;
  waiting = cond (is_multiple a) positional idle;
  position = next_position a w.position;
  is_trailing = w.is_trailing || a.trailing_var_arg;
  stopped = None;
}) (holds c a word h)

steps : (c : List Rule) (word : Text) (w : Walk) (h : Held) (s : Step)
    → after_step (loose_rules c) word w h s ≡ after_step c word w h s
steps c word w h (next waiting) = refl
steps c word w h (trailing position) = refl
steps c word w h (subcommand name) = refl
steps c word w h value =
    ap (λ o. to_positional (loose_rules c) o word w h) (sym (find-map _ loose_rule c))
    ∙ fills c (arg_by_index c w.position) word w h

steps_from : (c : List Rule) (word : Text) (w : Walk) (met found : Held × Step) → met ≡ found
    → after_step (loose_rules c) word w met.0 met.1 ≡ after_step c word w found.0 found.1
steps_from c word w met found same =
    ap (λ (m : Held × Step). after_step (loose_rules c) word w m.0 m.1) same
    ∙ steps c word w found.0 found.1

walks_from : (c : List Rule) (names : Names) (o : Option (Text × List Text)) (w : Walk)
    (word : Text) → walked_from (loose_rules c) names o w word ≡ walked_from c names o w word
walks_from c names (Some p) w word = refl
walks_from c names None w word =
    steps_from c word w
    (word_met (loose_rules c) names w.is_trailing w.waiting w.position word w.held)
    (word_met c names w.is_trailing w.waiting w.position word w.held)
    (meets_word c names w.is_trailing w.waiting w.position word w.held)

walks_on : (c : List Rule) (names : Names) (w : Walk) (word : Text)
    → walked (loose_rules c) names w word ≡ walked c names w word
unfolding walked
walks_on c names w word = walks_from c names w.stopped w word

folds : {A B : Type 0} (f g : B → A → B) → ((b : B) (a : A) → f b a ≡ g b a) → (b : B) (xs : List A)
    → fold f b xs ≡ fold g b xs
folds f g same b [] = refl
folds f g same b (x ∷ xs) = ap (λ k. fold f k xs) (same b x) ∙ folds f g same (g b x) xs

takes_default : (rows : List Row) (a : Rule)
    → with_default rows (loose_rule a) ≡ with_default rows a
takes_default rows a =
    ap (λ how. cond (has_row a.id rows) rows (default_rows a.id how a.defaults rows)) (reads a)

ends : (c : List Rule) (h : Held) → finished (loose_rules c) h ≡ finished c h
ends c h =
    fold-map with_default loose_rule _ c
    ∙ folds (λ rows a. with_default rows (loose_rule a)) with_default takes_default _ c
    ∙ ap (λ (k : Held). fold with_default k.rows c) (settles c h)

finds_rows : (c : List Rule) (names : Names) (words : List Text)
    → rows_after (loose_rules c) names words ≡ rows_after c names words
finds_rows c names words =
    ap (λ (w : Walk). finished (loose_rules c) w.held) (folds (walked (loose_rules c) names)
    (walked c names) (walks_on c names) (walk_from nothing_held) words)
    ∙ ends c (walk c names nothing_held words).held

enters : (a : App) (stop : Option (Text × List Text)) → entered (loose_app a) stop ≡ entered a stop
enters a None = refl
enters a (Some p) =
    ap (option_map (λ s. rows_at s p.1))
    (sym (find-map (λ s. answers_to p.0 (label_of s)) loose_shape a.subs))
    ∙ go (find (λ s. answers_to p.0 (label_of s)) a.subs)
  where
    go : (o : Option Shape) → option_map (λ s. rows_at s p.1) (option_map loose_shape o)
        ≡ option_map (λ s. rows_at s p.1) o
    go None = refl
    go (Some s) = ap (λ rows. Some (s.name, rows)) (finds_rows s.rules [] p.1)

-- whatever the texts are that `--format` takes
pub same_found : (choices : Bor (List (Bor Text))) (words : List Text)
    → subcommand_of browse_app words ≡ subcommand_of (browse_app_of choices) words
same_found choices words = enters (built (browse_app_of choices))
    (stop_after (built (browse_app_of choices)).top.rules (names_of (built (browse_app_of choices)))
    (argument_words (browse_app_of choices) words))
