use Rattle.std.proofs.Common.{◌≡◌, ℕ, List, [], ◌∷◌, None, refl, false}
use Rattle.kern_ids.specs.declared.entries.Entry.{Entry}
use Rattle.kern_ids.specs.declared.calls.State.{State}
use Rattle.kernel_model.specs.State.{state, next_state}
use Rattle.kernel_model.specs.Events.{is_map, is_purge, asked}
use Rattle.kernel_model.specs.Newest.{newest}

-- the state after one entry more
pub state-more : (e : Entry) (before : List Entry) (o : ℕ) → state (e ∷ before) o ≡ next_state o (state before o) e
unfolding state newest next_state
state-more e before o = refl

pub state-none : (o : ℕ) → state [] o ≡ Rattle.kern_ids.specs.declared.calls.State.TheVariants.Nonvolatile
unfolding state newest
state-none o = refl

-- an entry that neither maps, purges nor sets o leaves its state
pub state-kept : (e : Entry) (before : List Entry) (o : ℕ) → is_map o e ≡ false → is_purge o e ≡ false → asked o e ≡ None → state (e ∷ before) o ≡ state before o
unfolding state newest
state-kept e before o m p a = rw (m, p, a) refl
