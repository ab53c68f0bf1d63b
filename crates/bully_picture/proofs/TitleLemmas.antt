-- What a text has in it.
use Rattle.std.proofs.Common.{◌≡◌, ◌∙◌, ℕ, ◌++◌, List, sym, ap, subst, codes}
use Rattle.std.proofs.lemmas.List.{append_assoc}
use Rattle.bully_trace.specs.declared.verdict.Verdict.{Verdict}
use Rattle.bully_trace.specs.VerdictText.{verdict_head}
use Rattle.bully_picture.specs.Title.{Has, counted_text, shown_text, size_text, title_text}

-- a text that has another one has what that begins with
has-front : (text part more : List ℕ) → Has text (part ++ more) → Has text part
has-front text part more (before, behind, is) =
    (before, more ++ behind, is ∙ ap (λ l. l ++ behind) (sym (append_assoc before part more)) ∙ append_assoc (before ++ part) more behind)

-- the title begins with the verdict's line
title-begins : (verdict : Verdict) (nodes partitions before count : ℕ)
    → title_text verdict nodes partitions before count ≡ verdict_head verdict ++ (size_text nodes partitions ++ (shown_text before count ++ codes ")"))
title-begins verdict nodes partitions before count =
    append_assoc (verdict_head verdict ++ size_text nodes partitions) (shown_text before count) (codes ")")
    ∙ append_assoc (verdict_head verdict) (size_text nodes partitions) (shown_text before count ++ codes ")")

pub has-verdict : (text : List ℕ) (verdict : Verdict) (nodes partitions before count : ℕ) → Has text (title_text verdict nodes partitions before count) → Has text (verdict_head verdict)
has-verdict text verdict nodes partitions before count has =
    has-front text (verdict_head verdict) (size_text nodes partitions ++ (shown_text before count ++ codes ")"))
    (subst (Has text) (title-begins verdict nodes partitions before count) has)

-- a count behind other words, as it is written piece by piece
pub counted-written : (before number space word plural : List ℕ) → before ++ number ++ space ++ word ++ plural ≡ before ++ (number ++ space ++ word ++ plural)
counted-written before number space word plural = simp append_assoc

pub size-written : (nodes partitions : ℕ)
    → codes " (" ++ counted_text nodes (codes "node") ++ (codes ", " ++ counted_text partitions (codes "partition")) ++ codes ", " ≡ size_text nodes partitions
size-written nodes partitions =
    ap (λ l. l ++ codes ", ") (sym (append_assoc (codes " (" ++ counted_text nodes (codes "node")) (codes ", ") (counted_text partitions (codes "partition"))))
