-- What a writer with marks holds: text.
use Rattle.std.specs.Prelude.{◌≡◌, ℕ, List, [], ◌++◌, Option, Some, None, if◌then◌else◌}
use Rattle.std.specs.Io.KnownBytes.{Appends, append_known}
use Rattle.std.specs.declared.io.Write.{Ghosts}
use Rattle.bully_paint.specs.Marks.{is_whole, unpainted}
use Rattle.bully_paint.specs.Strokes.{Brush, Stroke, stroke, strokes}
use Rattle.bully_paint.specs.declared.painted.Painted.{Painted}

-- the text of these bytes, if they are known and end in no mark, and then of those that are held back
abbrev pub text_with : Option (List ℕ) → List ℕ → Option (List ℕ)
text_with None held = None
text_with (Some bytes) held = if is_whole bytes then Some (unpainted (bytes ++ held)) else None

module _ {W : Type 0} {g : Ghosts W} where
  -- what was written: with marks, the text of what the writer below got, of what is next there, and of what is held
  -- back
  abbrev pub text_in : Painted W g → Option (List ℕ)
  text_in p = if p.paints then text_with (append_known (g.contents p.below) p.queue.now) p.held.now else
      g.contents p.below

  -- nothing is held back: what the writer below got is all
  abbrev pub IsSent : Painted W g → Type 0
  IsSent p = text_in p ≡ if p.paints then text_with (g.contents p.below) [] else g.contents p.below

  -- what the writer below got, and what is next there
  abbrev pub out_of : Painted W g → Option (List ℕ)
  out_of p = append_known (g.contents p.below) p.queue.now

  abbrev pub brush_of : Painted W g → Brush
  brush_of p = record { held = p.held.now; within = p.within }

  -- this went out, or is next, and the brush is this one after it
  abbrev pub GoesOut : Painted W g → Painted W g → Stroke → Type 0
  GoesOut p q s = Appends (out_of p) (out_of q) s.out × (brush_of q ≡ s.brush)

  -- one more byte was written: its stroke went out
  abbrev pub PaintsByte : Painted W g → Painted W g → ℕ → Type 0
  PaintsByte p q b = GoesOut p q (stroke (brush_of p) b)

  -- these bytes were written: the stroke of each went out
  abbrev pub Paints : Painted W g → Painted W g → List ℕ → Type 0
  Paints p q bytes = GoesOut p q (strokes (brush_of p) bytes)
