-- What is answered to a question.
use Rattle.std.proofs.Common.{◌≡◌, ◌∙◌, ℕ, Bool, true, false, List, map, ap, refl, sym, subst}
use Rattle.std.specs.Prelude.{None, Some, Option, Result, Ok, Err, if◌then◌else◌}
use Rattle.std.specs.List.{AllByRecursion}
use Rattle.std.specs.Option.{option_map}
use Rattle.json.specs.Json.{Json, array, null}
use Rattle.cb_desk.specs.Scanned.{ScannedText, scanned_by, scanned_named}
use Rattle.cb_desk.specs.World.{File, World, has_file, text_of_file}
use Rattle.cb_scan.specs.Profiles.{facts_in}
use Rattle.cb_scan.specs.declared.profile.Profile.{Profile}
use Rattle.cb_tags.specs.Writers.{Writer}
use Rattle.cb_tags.specs.Writing.{Puts}
use Rattle.cb_wire.specs.declared.position.Position.{Position}
use Rattle.cb_wire.specs.Positions.{place}
use Rattle.cb_wire.specs.Texts.{frame}
use Rattle.cb_wire.specs.Trees.{result_reply}
use Rattle.cb_wire.specs.Uris.{name_below, path_of}
use Rattle.cb_wire.specs.Values.{items_of, value_text}
use Rattle.cb_lsp.specs.Answers.{answer_in, answer_named, answer_reply, name_of_uri, reply_with}
use Rattle.cb_lsp.specs.Bodies.{Replies}
use Rattle.cb_lsp.specs.Clients.{Client}
use Rattle.cb_lsp.specs.Documents.{Document, Looked, Oracle, later}
use Rattle.cb_lsp.specs.Messages.{Serving, asked_reply, reply_unless, result_unless}
use Rattle.cb_lsp.specs.Questions.{Asked, folds, in_file, incoming, outgoing, rename}
use Rattle.cb_lsp.specs.Questions.{workspace_symbols}
use Rattle.cb_lsp.specs.NameRenames.{renamed_at, renamed_there}
use Rattle.cb_lsp.specs.Parameters.{parameter_there}
use Rattle.cb_lsp.specs.Renames.{Answered, no_definition}
use Rattle.cb_lsp.specs.Renames.{without_reading}
use Rattle.cb_lsp.specs.Searches.{found_by}
use Rattle.cb_lsp.specs.Symbols.{session_symbol}
use Rattle.cb_lsp.specs.declared.question.FileQuestion.{FileQuestion}
use Rattle.cb_lsp.specs.steps.Works.{only}
use Rattle.cb_lsp.proofs.Notices.{behind}

-- a file that is there, with its text and what is found in it
abbrev pub IsThere : Profile → List File → List ℕ → ScannedText → Type 0
IsThere p files name t =
    (has_file files name ≡ true) × (t.bytes ≡ text_of_file files name)
    × (t.facts ≡ facts_in p (text_of_file files name))

there : (p : Profile) (files : List File) (name : List ℕ) (t : ScannedText)
    → Some t ≡ scanned_named p files name → IsThere p files name t
there p files name t h =
    let text = text_of_file files name in
    (elim (has_file files name) as
    (λ b. Some t ≡ option_map (scanned_by p) (if b then Some text else None)
    → (b ≡ true) × (t.bytes ≡ text) × (t.facts ≡ facts_in p text)) [
      | true ↦ λ k.
          let is : t ≡ scanned_by p text = cc in
          (refl, ap (λ (x : ScannedText). x.bytes) is, ap (λ (x : ScannedText). x.facts) is)
      | false ↦ λ k. cc
    ]) h

-- what is found in a file of a world that is this one
pub facts-there : (here held world : World) (name : List ℕ) (t : ScannedText)
    → Some t ≡ scanned_named here.profile here.files name → here ≡ world → held ≡ world
    → t.facts ≡ facts_in held.profile t.bytes
facts-there here held world name t found here-is held-is =
    let is = there here.profile here.files name t found in
    is.2 ∙ ap (facts_in here.profile) (sym is.1)
    ∙ ap (λ (w : World). facts_in w.profile t.bytes) (here-is ∙ sym held-is)

-- the file is there
pub puts-there : {A E : Type 0} (no_memory : Bool) (s inside : Serving) (here held : World)
    (c : Client) (name : List ℕ) (t : ScannedText) (question : FileQuestion) (id : Json)
    (before after : Writer) (r : Result A E)
    → inside ≡ s → Some t ≡ scanned_named here.profile here.files name
    → here ≡ inside.work.world → held ≡ inside.work.world → c ≡ s.client
    → Puts before after r
    (frame (value_text (result_unless no_memory id (answer_in c held name t.bytes question))))
    → Puts before after r (frame (value_text (result_unless no_memory id
    (answer_named s.client s.work.world question (Some name)))))
puts-there no_memory s inside here held c name t question id before after r is found here-is held-is
    c-is put =
    let file = there here.profile here.files name t found in
    let named : (if true then answer_in inside.client inside.work.world name
    (text_of_file inside.work.world.files name) question else null)
    ≡ answer_named inside.client inside.work.world question (Some name) =
    ap (λ b. if b then answer_in inside.client inside.work.world name
    (text_of_file inside.work.world.files name) question else null)
    (sym (ap (λ (w : World). has_file w.files name) (sym here-is) ∙ file.0)) in
    let same : answer_in c held name t.bytes question
    ≡ answer_named s.client s.work.world question (Some name) =
    ap (λ k. answer_in k held name t.bytes question)
    (c-is ∙ ap (λ (x : Serving). x.client) (sym is))
    ∙ ap (λ w. answer_in inside.client w name t.bytes question) held-is
    ∙ ap (λ b. answer_in inside.client inside.work.world name b question)
    (file.1 ∙ ap (λ (w : World). text_of_file w.files name) here-is)
    ∙ named
    ∙ ap (λ (x : Serving). answer_named x.client x.work.world question (Some name)) is in
    subst (λ j. Puts before after r (frame (value_text (result_unless no_memory id j)))) same put

missing : (p : Profile) (files : List File) (name : List ℕ)
    → None ≡ scanned_named p files name → has_file files name ≡ false
missing p files name h =
    (elim (has_file files name) as
    (λ b. None ≡ option_map (scanned_by p) (if b then Some (text_of_file files name) else None)
    → b ≡ false) [
      | true ↦ λ k. cc
      | false ↦ λ k. refl
    ]) h

-- there is no such file
pub puts-missing : {A E : Type 0} (s inside : Serving) (here : World) (name : List ℕ)
    (question : FileQuestion) (id : Json) (before after : Writer) (r : Result A E)
    → inside ≡ s → None ≡ scanned_named here.profile here.files name → here ≡ inside.work.world
    → Puts before after r (frame (value_text (result_reply id null)))
    → Puts before after r (frame (value_text (result_unless false id
    (answer_named s.client s.work.world question (Some name)))))
puts-missing s inside here name question id before after r is found here-is put =
    let none = ap (λ (w : World). has_file w.files name) (sym (here-is
    ∙ ap (λ (x : Serving). x.work.world) is)) ∙ missing here.profile here.files name found in
    let same : null ≡ answer_named s.client s.work.world question (Some name) =
    ap (λ b. if b then answer_in s.client s.work.world name
    (text_of_file s.work.world.files name) question else null) (sym none) in
    subst (λ j. Puts before after r (frame (value_text (result_reply id j)))) same put

-- ---- what is told of a file, unless memory is refused

abbrev pub Tells : (told : Client → World → Option (List ℕ) → Json) → Bool → Serving → (id : Json)
    → (uri : List ℕ) → Asked → Type 0
Tells told no_memory s id uri asked =
    result_unless no_memory id (told s.client s.work.world (name_of_uri s.client uri))
    ≡ (asked_reply (only no_memory) s id (Ok asked)).message

-- of the file of a URI
pub puts-of-file : {A E : Type 0} (told : Client → World → Option (List ℕ) → Json)
    (asked : Asked) (no_memory : Bool) (s inside : Serving) (c : Client) (w : World)
    (uri path file : List ℕ) (id : Json) (before after : Writer) (r : Result A E) → inside ≡ s
    → c ≡ inside.client → w ≡ inside.work.world → Some path ≡ path_of uri
    → file ≡ name_below inside.client.root.path path → Tells told no_memory s id uri asked
    → Puts before after r (frame (value_text (result_unless no_memory id (told c w (Some file)))))
    → Puts before after r
    (frame (value_text (asked_reply (only no_memory) s id (Ok asked)).message))
puts-of-file told asked no_memory s inside c w uri path file id before after r is c-is w-is found
    file-is tells put =
    let named : Some file ≡ name_of_uri inside.client uri =
    ap Some file-is ∙ ap (option_map (name_below inside.client.root.path)) found in
    let same : told c w (Some file) ≡ told s.client s.work.world (name_of_uri s.client uri) =
    (λ i. told (c-is i) (w-is i) (named i))
    ∙ ap (λ (x : Serving). told x.client x.work.world (name_of_uri x.client uri)) is in
    subst (λ j. Puts before after r (frame (value_text j)))
    (ap (result_unless no_memory id) same ∙ tells) put

-- of a URI that names no file
pub puts-of-none : {A E : Type 0} (told : Client → World → Option (List ℕ) → Json)
    (asked : Asked) (s : Serving) (uri : List ℕ) (id : Json) (before after : Writer)
    (r : Result A E) → None ≡ path_of uri → Tells told false s id uri asked
    → Puts before after r
    (frame (value_text (result_unless false id (told s.client s.work.world None))))
    → Puts before after r (frame (value_text (asked_reply (only false) s id (Ok asked)).message))
puts-of-none told asked s uri id before after r none tells put =
    subst (λ j. Puts before after r (frame (value_text j)))
    (ap (λ n. result_unless false id (told s.client s.work.world n))
    (ap (option_map (name_below s.client.root.path)) none) ∙ tells) put

-- the answer to a question about it
pub answer-tells : (no_memory : Bool) (s : Serving) (id : Json) (uri : List ℕ)
    (question : FileQuestion)
    → Tells (λ c w file. answer_named c w question file) no_memory s id uri (in_file uri question)
answer-tells true s id uri question = refl
answer-tells false s id uri question = refl

-- ---- a name is changed

-- the file is there
pub puts-renamed-there : {A E : Type 0} (finds : Looked → Type 0) (no_memory : Bool) (o : Oracle)
    (s inside : Serving) (here held : World) (ds : List Document) (c : Client) (name : List ℕ)
    (t : ScannedText) (p : Position) (new : List ℕ) (id : Json) (before after : Writer)
    (r : Result A E)
    → inside ≡ s → Some t ≡ scanned_named here.profile here.files name
    → here ≡ inside.work.world → held ≡ inside.work.world → ds ≡ inside.work.documents
    → c ≡ s.client
    → Replies finds (reply_unless no_memory id (let at = place c.encoding t.bytes p in
    renamed_there o c (record { world = held; documents = ds }) name t.bytes new at
    (parameter_there (facts_in held.profile t.bytes).defs t.bytes at))) before after r
    → Replies finds (reply_unless no_memory id
    (renamed_at o s.client s.work p new (Some name))) before after r
puts-renamed-there finds no_memory o s inside here held ds c name t p new id before after r is found
    here-is held-is ds-is c-is put =
    let file = there here.profile here.files name t found in
    let told : Client → World → List Document → List ℕ → Answered =
    λ k w d b. let at = place k.encoding b p in
    renamed_there o k (record { world = w; documents = d }) name b new at
    (parameter_there (facts_in w.profile b).defs b at) in
    let w = inside.work.world in
    let d = inside.work.documents in
    let named : told inside.client w d (text_of_file w.files name)
    ≡ renamed_at o inside.client inside.work p new (Some name) =
    ap (λ b. if b then told inside.client w d (text_of_file w.files name)
    else without_reading (Err no_definition))
    (sym (ap (λ (x : World). has_file x.files name) (sym here-is) ∙ file.0)) in
    let same : told c held ds t.bytes ≡ renamed_at o s.client s.work p new (Some name) =
    ap (λ k. told k held ds t.bytes) (c-is ∙ ap (λ (x : Serving). x.client) (sym is))
    ∙ ap (λ x. told inside.client x ds t.bytes) held-is
    ∙ ap (λ x. told inside.client w x t.bytes) ds-is
    ∙ ap (told inside.client w d)
    (file.1 ∙ ap (λ (x : World). text_of_file x.files name) here-is)
    ∙ named
    ∙ ap (λ (x : Serving). renamed_at o x.client x.work p new (Some name)) is in
    subst (λ a. Replies finds (reply_unless no_memory id a) before after r) same put

-- there is no such file
pub puts-renamed-missing : {A E : Type 0} (finds : Looked → Type 0) (o : Oracle) (s inside : Serving) (here : World) (name : List ℕ)
    (p : Position) (new : List ℕ) (id : Json) (before after : Writer) (r : Result A E)
    → inside ≡ s → None ≡ scanned_named here.profile here.files name → here ≡ inside.work.world
    → Puts before after r (frame (value_text (answer_reply id (Err no_definition))))
    → Replies finds (reply_unless false id
    (renamed_at o s.client s.work p new (Some name))) before after r
puts-renamed-missing finds o s inside here name p new id before after r is found here-is put =
    let w = s.work.world in
    let text = text_of_file w.files name in
    let none = ap (λ (x : World). has_file x.files name) (sym (here-is
    ∙ ap (λ (x : Serving). x.work.world) is)) ∙ missing here.profile here.files name found in
    let same : without_reading (Err no_definition) ≡ renamed_at o s.client s.work p new (Some name) =
    ap (λ b. if b then (let at = place s.client.encoding text p in
    renamed_there o s.client s.work name text new at
    (parameter_there (facts_in w.profile text).defs text at))
    else without_reading (Err no_definition))
    (sym none) in
    subst (λ a. Replies finds (reply_with id a) before after r) same (put, tt)

-- the file of a URI
pub puts-renamed : {A E : Type 0} (finds : Looked → Type 0) (no_memory : Bool) (o : Oracle)
    (s : Serving) (uri path name : List ℕ) (p : Position) (text new : List ℕ) (id : Json)
    (before after : Writer) (r : Result A E)
    → Some path ≡ path_of uri → name ≡ name_below s.client.root.path path → text ≡ new
    → Replies finds (reply_unless no_memory id
    (renamed_at o s.client s.work p text (Some name))) before after r
    → Replies finds (asked_reply (behind no_memory o) s id (Ok (rename uri p new))) before after r
puts-renamed finds no_memory o s uri path name p text new id before after r found is text-is put =
    let same : Some name ≡ name_of_uri s.client uri =
    ap Some is ∙ ap (option_map (name_below s.client.root.path)) found in
    subst (λ a. Replies finds (reply_unless no_memory id a) before after r)
    (λ i. renamed_at o s.client s.work p (text-is i) (same i)) put

pub puts-renamed-nowhere : {A E : Type 0} (finds : Looked → Type 0) (s : Serving) (uri : List ℕ)
    (p : Position) (new : List ℕ) (id : Json) (before after : Writer) (r : Result A E)
    → None ≡ path_of uri → Puts before after r (frame (value_text (answer_reply id (Err no_definition))))
    → Replies finds (asked_reply (only false) s id (Ok (rename uri p new))) before after r
puts-renamed-nowhere finds s uri p new id before after r none put =
    subst (λ n. Replies finds (reply_with id (renamed_at (later (only false)) s.client s.work p new n))
    before after r) (ap (option_map (name_below s.client.root.path)) none) (put, tt)

-- ---- a server that is the same

pub puts-asked : {A E : Type 0} (finds : Looked → Type 0) (s inside : Serving) (o : Oracle)
    (asked to : Asked) (id : Json) (before after : Writer) (r : Result A E) → inside ≡ s → asked ≡ to
    → Replies finds (asked_reply o inside id (Ok asked)) before after r
    → Replies finds (asked_reply o s id (Ok to)) before after r
puts-asked finds s inside o asked to id before after r is asks put =
    subst (λ a. Replies finds (asked_reply o s id (Ok a)) before after r) asks
    (subst (λ (x : Serving). Replies finds (asked_reply o x id (Ok asked)) before after r) is put)

-- a question for which nothing is read
abbrev pub IsUnread : Asked → Type 0
IsUnread (in_file uri question) = Unit {0}
IsUnread (workspace_symbols query) = Unit {0}
IsUnread (rename uri p new) = ⊥
IsUnread (incoming name uri) = Unit {0}
IsUnread (outgoing name uri p) = Unit {0}
IsUnread (folds uri) = Unit {0}

nothing-read : (finds : Looked → Type 0) (m : Bool) (s : Serving) (id : Json) (asked : Asked)
    → IsUnread asked → AllByRecursion finds (asked_reply (only m) s id (Ok asked)).read
nothing-read finds true s id asked none = tt
nothing-read finds false s id (in_file uri question) none = tt
nothing-read finds false s id (workspace_symbols query) none = tt
nothing-read finds false s id (rename uri p new) none = absurd none
nothing-read finds false s id (incoming name uri) none = tt
nothing-read finds false s id (outgoing name uri p) none = tt
nothing-read finds false s id (folds uri) none = tt

pub puts-unread : {A E : Type 0} (finds : Looked → Type 0) (s inside : Serving) (m : Bool)
    (asked to : Asked) (id : Json) (before after : Writer) (r : Result A E) → inside ≡ s → asked ≡ to
    → IsUnread asked
    → Puts before after r (frame (value_text (asked_reply (only m) inside id (Ok asked)).message))
    → Replies finds (asked_reply (only m) s id (Ok to)) before after r
puts-unread finds s inside m asked to id before after r is asks none put =
    puts-asked finds s inside (only m) asked to id before after r is asks
    (put, nothing-read finds m inside id asked none)

pub puts-symbols : {A E : Type 0} (finds : Looked → Type 0) (s inside : Serving) (world : World)
    (c : Client) (query text : List ℕ) (to : Asked) (id : Json) (before after : Writer)
    (r : Result A E) → inside ≡ s → workspace_symbols query ≡ to
    → world ≡ inside.work.world → c ≡ inside.client → text ≡ query
    → Puts before after r (frame (value_text (result_reply id
    (array (items_of (map (session_symbol c world.files) (found_by world text)))))))
    → Replies finds (asked_reply (only false) s id (Ok to)) before after r
puts-symbols finds s inside world c query text to id before after r is asks world-is c-is text-is
    put =
    let told : Client → World → List ℕ → Json =
    λ k w q. array (items_of (map (session_symbol k w.files) (found_by w q))) in
    let same : told c world text ≡ told inside.client inside.work.world query =
    ap (λ k. told k world text) c-is ∙ ap (λ w. told inside.client w text) world-is
    ∙ ap (told inside.client inside.work.world) text-is in
    puts-unread finds s inside false (workspace_symbols query) to id before after r is asks tt
    (subst (λ j. Puts before after r (frame (value_text (result_reply id j)))) same put)
