-- The newest emptying of an object, one entry more.
use Rattle.std.proofs.Common.{◌≡◌, ℕ, ◌+◌, ◌<◌, List, [], ◌∷◌, length, take, reverse, get_or, None, refl}
use Rattle.kern_ids.specs.declared.entries.Entry.{Entry}
use Rattle.kernel_model.specs.Newest.{newest}
use Rattle.kernel_model.specs.State.{state}
use Rattle.slow_kernel.proofs.Loops.{past_loop, past_length}
use Rattle.report_tables.specs.Reasons.{emptied_at, next_emptied}

pub emptied-more : (e : Entry) (before : List Entry) (o : ℕ) → emptied_at (e ∷ before) o ≡ next_emptied (state before o) o (length before) (emptied_at before o) e
unfolding emptied_at newest next_emptied
emptied-more e before o = refl

pub emptied_none : (o : ℕ) → emptied_at [] o ≡ None
unfolding emptied_at newest
emptied_none o = refl

pub emptied_loop : (h : List Entry) (i : ℕ) (e : Entry) (o : ℕ) → i < length h → e ≡ get_or h i e → emptied_at (reverse (take (i + 1) h)) o ≡ next_emptied (state (reverse (take i h)) o) o i (emptied_at (reverse (take i h)) o) e
emptied_loop h i e o l r = rw (past_loop h i e l r) (rw (past_length h i l) at (emptied-more e (reverse (take i h)) o))
