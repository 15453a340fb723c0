-- What a line value holds.
use Rattle.std.specs.Prelude.{ℕ, List, take}
use Rattle.listing.specs.declared.line.Line.{Line}

-- the bytes of the line
abbrev pub line_bytes : Line → List ℕ
line_bytes l = take l.len l.bytes
