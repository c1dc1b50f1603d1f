-- Numbers that are drawn one after the other.
use Rattle.std.specs.Prelude.{ℕ, ◌+◌, ◌*◌, ◌/◌, ◌%◌, ◌^◌}

-- what is drawn: from the state, a value and the state after it
abbrev pub Drawn : Type 0 → Type 0
Drawn A = ℕ → A × ℕ

-- the state after a draw
abbrev pub next_state : ℕ → ℕ
next_state x = (x * 1103515245 + 12345) % 2 ^ 31

-- a number below k, of the state after the draw
unfoldable pub draw : ℕ → Drawn ℕ
draw k x = ((next_state x / 65536) % k, next_state x)

-- this value, with no draw
abbrev pub drawn : {A : Type 0} → A → Drawn A
drawn a x = (a, x)

-- one after the other
infixl 10 ◌>>=◌
abbrev pub ◌>>=◌ : {A B : Type 0} → Drawn A → (A → Drawn B) → Drawn B
(d >>= f) x = f (d x).0 (d x).1
