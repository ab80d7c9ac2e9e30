-- An image that is being made.
use Rattle.std.specs.Prelude.{ℕ, ◌+◌, List, [], ◌++◌, ◌<◌, ◌^◌, length, ◌==◌, if◌then◌else◌, All}
use Rattle.hm_base.specs.Image.{Segment, segment, IsImage, Before}
use Rattle.hm_source.specs.Directives.{org}
use Rattle.hm_source.specs.Places.{HasRoom}
use Rattle.hm_asm.specs.Segments.{with_piece}
use Rattle.hm_source.specs.Statements.{Said, directive}

-- the segments that are whole, and the bytes of the one that goes on, which begins at start
pub record Made : Type 0 where
  pub whole : List Segment
  pub start : ℕ
  pub bytes : List ℕ

-- where the next byte stands
abbrev pub place_of : Made → ℕ
place_of m = m.start + length m.bytes

-- all segments, where no more bytes come
abbrev pub closed : Made → List Segment
closed m = m.whole ++ with_piece m.start m.bytes []

-- bytes go on at an address, which begins a segment where it is another place
abbrev pub moved : Made → ℕ → Made
moved m a = if place_of m == a then m else record { whole = closed m; start = a; bytes = [] }

-- bytes go on at the end of the segment that goes on
abbrev pub with_bytes : Made → List ℕ → Made
with_bytes m more = record m { bytes = m.bytes ++ more }

-- what a line makes of it that says this and gives these bytes
abbrev pub after_line : Made → Said → List ℕ → Made
after_line m (directive (org b)) bs = moved m b
after_line m said bs = with_bytes m bs

-- the whole segments are those of an image, and end before the one that goes on, which has room
pub record IsMade (m : Made) : Type 0 where
  pub image : IsImage m.whole
  pub behind : All (λ s. Before s (segment m.start m.bytes)) m.whole
  pub room : HasRoom m.start (length m.bytes)
  pub place : place_of m < 2 ^ 32
