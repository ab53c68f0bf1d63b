-- The title of a picture, and its ends.
use Rattle.std.specs.Prelude.{◌≡◌, ℕ, ◌+◌, List, [], ◌++◌, ◌==◌, codes, if◌then◌else◌}
use Rattle.std.specs.Fmt.{decimal}
use Rattle.bully_trace.specs.declared.verdict.Verdict.{Verdict}
use Rattle.bully_trace.specs.VerdictText.{verdict_head}

-- the text has this one in it
abbrev pub Has : List ℕ → List ℕ → Type 0
Has text part = (before : List ℕ) × (behind : List ℕ) × (text ≡ before ++ part ++ behind)

-- it starts with this one
abbrev pub Begins : List ℕ → List ℕ → Type 0
Begins text part = (behind : List ℕ) × (text ≡ part ++ behind)

-- it ends with this one
abbrev pub Ends : List ℕ → List ℕ → Type 0
Ends text part = (before : List ℕ) × (text ≡ before ++ part)

-- the text is one SVG element, with no text before or after it
abbrev pub IsDocument : List ℕ → Type 0
IsDocument text =
    (inside : List ℕ) × (text ≡ codes "<svg xmlns=\"http://www.w3.org/2000/svg\"" ++ inside ++ codes "</svg>\n")

-- which rows are shown: so many after this one
abbrev pub shown_text : ℕ → ℕ → List ℕ
shown_text before count = if count == 0 then codes "no rows" else
    codes "rows " ++ decimal (before + 1) ++ codes " to " ++ decimal (before + count)

-- a count and the word for what is counted
abbrev pub counted_text : ℕ → List ℕ → List ℕ
counted_text count word = decimal count ++ codes " " ++ word ++ (if count == 1 then [] else codes "s")

-- how large the group is
abbrev pub size_text : ℕ → ℕ → List ℕ
size_text nodes partitions = codes " (" ++ counted_text nodes (codes "node") ++ codes ", "
    ++ counted_text partitions (codes "partition") ++ codes ", "

-- the verdict's line, how large the group is, and which rows are shown
abbrev pub title_text : Verdict → ℕ → ℕ → ℕ → ℕ → List ℕ
title_text verdict nodes partitions before count =
    verdict_head verdict ++ size_text nodes partitions ++ shown_text before count ++ codes ")"
