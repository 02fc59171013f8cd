-- A desk of memory that moves its bytes in pieces: what it holds, and how many bytes a call moves at most.
use Rattle.std.specs.Prelude.{ℕ, refl}
use Rattle.std.specs.Coded.{Coded, code_by, coded×, coded_ℕ}
use Rattle.dgn_desk.specs.Content.{Content, coded_content}

pub record PieceDesk : Type 0 where
  pub content : Content
  pub piece : ℕ

-- such a desk as data: its fields in order
abbrev pub coded_pieces : Coded PieceDesk
coded_pieces =
    code_by (Content × ℕ) (coded× coded_content coded_ℕ) (λ d. (d.content, d.piece)) (λ p. record { content = p.0; piece = p.1 }) (λ _. refl)
