-- What a job reads of its texts: no other facts are sought.
use Rattle.std.specs.Prelude.{Bool, true, false}
use Rattle.cb_scan.specs.declared.profile.Profile.{Profile}
use Rattle.cb_scan.specs.declared.profile.Wanted.{Wanted}
use Rattle.cb_scan.specs.Profiles.{all_wanted}
use Rattle.cb_desk.specs.declared.rows.Field.{Field}
use Rattle.cb_desk.specs.declared.rows.Field.TheVariants.{Symbol, Definition, Called, Calling}
use Rattle.cb_desk.specs.declared.rows.Field.TheVariants.{Text, File, Including}
use Rattle.cb_words.specs.declared.job.Job.{Job}
use Rattle.cb_words.specs.declared.job.Job.TheVariants.{Line, Find, Tags, Lsp}
use Rattle.cbrowse.specs.Messages.{rules_of}

-- the facts of these lists
abbrev pub only : (defs uses calls includes : Bool) → Wanted
only defs uses calls includes =
    record { defs = defs; uses = uses; calls = calls; includes = includes }

-- the facts that a field asks for
abbrev pub asked_by : Field → Wanted
asked_by Symbol = only false true false false
asked_by Definition = only true false false false
asked_by Called = only false false true false
asked_by Calling = only false false true false
asked_by Text = only false false false false
asked_by File = only false false false false
asked_by Including = only false false false true

-- the facts that a job reads: a session and a server all, a search those of its field, and tags the definitions
abbrev pub needed_by : Job → Wanted
needed_by (Line bounds rules list files) = all_wanted
needed_by (Find bounds rules field pattern list files) = asked_by field
needed_by (Tags bounds rules listing tagsfile force format list files) = only true false false false
needed_by (Lsp bounds rules root list files) = all_wanted

-- the rules of a job, and the facts that it reads
abbrev pub needed_of : Job → Profile
needed_of job = record { rules = rules_of job; wanted = needed_by job }
