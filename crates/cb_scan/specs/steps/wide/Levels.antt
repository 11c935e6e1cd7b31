-- The levels that open braces make.
use Rattle.std.specs.Prelude.{Option, None, Some, if◌then◌else◌}
use Rattle.cb_scan.specs.declared.facts.Tag.{Tag}
use Rattle.cb_scan.specs.declared.rules.wide.level.Level.{Level}
use Rattle.cb_scan.specs.declared.rules.wide.level.Level.TheVariants.{Block, Enumerators, Members}
use Rattle.cb_scan.specs.declared.rules.wide.opening.Opening.{Opening}
use Rattle.cb_scan.specs.rules.wide.Bodies.{is_enumeration}
use Rattle.cb_scan.specs.steps.wide.Declarations.{declaration_start}
use Rattle.cb_scan.specs.steps.wide.Enumerators.{enumeration_start}
use Rattle.cb_scan.specs.steps.wide.Openings.{tag_of}

-- the tag around the members of a body that has none and is directly inside
abbrev pub member_tag : Level → Option Tag
member_tag (Members tag declaration) = tag
member_tag (Enumerators tag enumeration) = None
member_tag Block = None

-- its own tag, or that around
abbrev pub or_around : Option Tag → Option Tag → Option Tag
or_around (Some tag) around = Some tag
or_around None around = around

-- the body that an opening begins
abbrev pub opened_body : Opening → Option Tag → Level
opened_body o around =
    if is_enumeration o.kind then Enumerators (tag_of o) enumeration_start
    else Members (or_around (tag_of o) around) declaration_start

-- the level that a `{` makes
abbrev pub opened : Option Opening → Option Tag → Level
opened None around = Block
opened (Some o) around = opened_body o around
