-- What a writer has appended: all of its text, or a front of it where it stopped for want of memory.
use Rattle.std.specs.Prelude.{ℕ, ◌≡◌, ◌≤◌, List, ◌++◌, length, take, Result, OnOk, OnErr}

-- the old bytes, and behind them a front of the text
pub record AppendsFrontOf (text old new : List ℕ) : Type 0 where
  pub count : ℕ
  pub within : count ≤ length text
  pub bytes : new ≡ old ++ take count text

-- the old bytes, and behind them all of these, or a front of them where the answer is an error
pub record Appends {X E : Type 0} (answer : Result X E) (all old new : List ℕ) : Type 0 where
  pub text : OnOk answer (new ≡ old ++ all)
  pub front : OnErr answer (AppendsFrontOf all old new)
