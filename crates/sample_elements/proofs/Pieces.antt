-- Five pieces of bytes, joined from the left and from the right.
use Rattle.std.proofs.Common.{◌≡◌, ℕ, List, ◌++◌, ap, ◌∙◌, append_assoc}

pub from_the_left : (old a b c d one two three all : List ℕ) → one ≡ old ++ a → two ≡ one ++ b → three ≡ two ++ c → all ≡ three ++ d → all ≡ old
    ++ (a ++ (b ++ (c ++ d)))
from_the_left old a b c d one two three all first second third last =
    last ∙ ap (λ (x : List ℕ). x ++ d) (third ∙ ap (λ (x : List ℕ). x ++ c) (second ∙ ap (λ (x : List ℕ). x ++ b) first))
    ∙ append_assoc ((old ++ a) ++ b) c d ∙ append_assoc (old ++ a) b (c ++ d) ∙ append_assoc old a (b ++ (c ++ d))
