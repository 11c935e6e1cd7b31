use Rattle.std.proofs.Common.{rules, ◌≡◌, ◌∙◌, ◌<◌, ap, sym, ℕ, List, Some, None}
use Rattle.std.specs.Prelude.{Option}
use Rattle.cb_index.specs.Files.{file_of, files_of}
use Rattle.cb_index.specs.declared.entry.Shown.{Shown}
use Rattle.cb_desk.specs.Places.{nth}
use Rattle.cb_desk.specs.Stack.{places}
use Rattle.cb_desk.specs.World.{Place}
use Rattle.cb_desk.specs.steps.Named.{file_named}
use Rattle.cb_desk.proofs.TagPlans.{all_contained, has_that_name, is_there, nth_is_placed}
use Rattle.cb_desk.proofs.present.Present.nth_tag.Goals as goal

pub returns-clause-place : goal.returns-clause-place
returns-clause-place c =
    let k = c.args.self.now in
    let files = files_of k.archive k.now.shown in
    let file = c.in_ok-file.file.now in
    let place : nth c.args.n (places k.archive.profile files c.args.name.now)
    ≡ Some (record { file = file; line = c.in_ok-file.line }) = search rules in
    let found : Some (file_of k.archive c.in_ok-found.found) ≡ file_named files file =
    search rules in
    let framed : List ℕ → Option Place = λ n.
    Some (record { file = n; line = c.in_ok-file.line }) in
    ap framed (has_that_name (file_of k.archive c.in_ok-found.found) files file found) ∙ sym place

pub returns-in_err-found-clause-place : goal.returns-in_err-found-clause-place
returns-in_err-found-clause-place c =
    let k = c.args.self.now in
    let files = files_of k.archive k.now.shown in
    let file = c.in_ok-file.file.now in
    let place : nth c.args.n (places k.archive.profile files c.args.name.now)
    ≡ Some (record { file = file; line = c.in_ok-file.line }) = search rules in
    let none : None ≡ file_named files file = search rules in
    absurd (is_there files file none (nth_is_placed k.archive.profile c.args.name.now files c.args.n
    _ place))

pub returns-clause-there : goal.returns-clause-there
returns-clause-there c =
    let k = c.args.self.now in
    (all_contained (λ (s : Shown). (s.name < k.now.names) × (s.version < k.now.versions))
    k.now.shown c.in_ok-found.found c.requires.there.shown (search rules)).0
