-- Lemmas on a writer that holds nothing back.
use Rattle.std.proofs.Common.{◌≡◌, ℕ, Bool, true, false, List, [], Option, Some, None, refl, ap, ◌∙◌, append-nil, if◌then◌else◌}
use Rattle.std.specs.Io.KnownBytes.{append_known}
use Rattle.std.specs.declared.io.Write.{Ghosts}
use Rattle.bully_paint.specs.Painted.{IsSent, text_with}
use Rattle.bully_paint.specs.declared.painted.Painted.{Painted}
use Rattle.bully_paint.proofs.TextLemmas.{text_by}

none-next : (a : Option (List ℕ)) → text_with (append_known a []) [] ≡ text_with a []
none-next None = refl
none-next (Some xs) = ap (λ l. text_with (Some l) []) (append-nil xs)

sent-by : (paints : Bool) (a : Option (List ℕ)) (queue held : List ℕ) → (paints ≡ true → (queue ≡ []) × (held ≡ []))
    → text_by paints a queue held ≡ (if paints then text_with a [] else a)
sent-by false a queue held none = refl
sent-by true a queue held none =
    let both = none refl in
    ap (λ q. text_with (append_known a q) held) both.0 ∙ ap (λ h. text_with (append_known a []) h) both.1 ∙ none-next a

module _ {W : Type 0} {g : Ghosts W} where
  pub is_sent : (p : Painted W g) → (p.paints ≡ true → (p.queue.now ≡ []) × (p.held.now ≡ [])) → IsSent p
  is_sent p none = sent-by p.paints (g.contents p.below) p.queue.now p.held.now none
