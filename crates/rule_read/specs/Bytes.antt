-- Public contracts speak by this: what each byte is for, outside comments.
use Rattle.std.specs.Prelude.{ℕ, ◌||◌, ◌==◌, if◌then◌else◌}
use Rattle.rt_base.specs.Kinds.{is_letter}
use Rattle.rule_read.specs.declared.token.Class.{Class}
use Rattle.rule_read.specs.declared.token.Class.TheVariants.{Letter, Line, Gap, Percent, Open}
use Rattle.rule_read.specs.declared.token.Class.TheVariants.{Close, OpenList, CloseList, Comma, Dot}
use Rattle.rule_read.specs.declared.token.Class.TheVariants.{Equals, Colon, Dash, Backslash, Other}

-- A line feed is 10; a space, a tab and a carriage return are 32, 9 and 13; then come % ( ) [ ] , .
-- = : - and \ in this order.
unfoldable pub class_of : ℕ → Class
class_of b =
    if is_letter b then Letter
    else if b == 10 then Line
    else if b == 32 || b == 9 || b == 13 then Gap
    else if b == 37 then Percent
    else if b == 40 then Open
    else if b == 41 then Close
    else if b == 91 then OpenList
    else if b == 93 then CloseList
    else if b == 44 then Comma
    else if b == 46 then Dot
    else if b == 61 then Equals
    else if b == 58 then Colon
    else if b == 45 then Dash
    else if b == 92 then Backslash
    else Other
