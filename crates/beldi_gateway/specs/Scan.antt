-- Where a head ends: with the first empty line that follows a line that is not empty. A line ends with a line feed, and a carriage return directly before it belongs to the end.
use Rattle.std.specs.Prelude.{ℕ, ◌+◌, ◌==◌, nat_lt, false, if◌then◌else◌, List, [], ◌∷◌}
use Rattle.beldi_gateway.specs.declared.scan.{HeadLine.HeadLine, HeadLine.TheVariants.Blank, HeadLine.TheVariants.Return, HeadLine.TheVariants.Text, Scan.Scan}

-- before any byte
abbrev pub start : Scan
start = record { size = 0; lines = 0; line = Blank; over = false }

-- a line feed ends the line: one that is not empty is counted, and an empty one after such a one ends the head
abbrev pub ended : Scan → HeadLine → Scan
ended s Text = record { size = s.size + 1; lines = s.lines + 1; line = Blank; over = false }
ended s Blank = record { size = s.size + 1; lines = s.lines; line = Blank; over = nat_lt 0 s.lines }
ended s Return = record { size = s.size + 1; lines = s.lines; line = Blank; over = nat_lt 0 s.lines }

-- one carriage return alone may still be an empty line
abbrev pub returned : HeadLine → HeadLine
returned Blank = Return
returned Return = Text
returned Text = Text

abbrev pub passed : Scan → ℕ → Scan
passed s b =
    if b == 10 then ended s s.line else record { size = s.size + 1; lines = s.lines; line = if b == 13 then returned s.line else Text; over = false }

-- these bytes more; the end of the head is the last thing that is looked at
abbrev pub scan_on : Scan → List ℕ → Scan
scan_on s [] = s
scan_on s (b ∷ bs) = if s.over then s else scan_on (passed s b) bs
