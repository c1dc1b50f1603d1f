-- What an entry that changes nothing says of each thing: nothing.
use Rattle.std.proofs.Common.{◌≡◌, ℕ, Option, None, refl, Bool, true, false, not, ◌&&◌, if◌then◌else◌}
use Rattle.std.proofs.lemmas.Bool.{false≢true}
use Rattle.kern_ids.specs.declared.entries.Entry.{Entry}
use Rattle.kern_ids.specs.declared.ids.PageId.{PageId}
use Rattle.kern_ids.specs.declared.calls.Call.{Call}
use Rattle.kern_ids.specs.declared.calls.Call.TheVariants.{Map, Unmap, Write, Read, SetState, Active, Exit, SetBand, SetLimits, Attach, Tick}
use Rattle.kern_ids.specs.declared.replies.Reply.{Reply}
use Rattle.kern_ids.specs.declared.replies.Reply.TheVariants.{Purged, Moved, Aged, Killed}
use Rattle.kernel_model.specs.Events.{accepted, is_map_call, is_attach_call, is_unmap_call, purged_by, wish_call, byte_call, write_covers, read_covers, is_exit_call, killed_by}
use Rattle.kernel_model.specs.Pages.{move_of, is_deactivation}
use Rattle.kernel_model.specs.Bands.{band_call, active_call, limits_call, aged_tasks, is_tick_call}
use Rattle.kernel_model.specs.Deadlines.{set_by}
use Rattle.kernel_model.specs.Laws.Kinds.{is_quiet_call, is_quiet_reply, is_quiet}

no : {A : Type 0} → false ≡ true → A
no h = absurd (false≢true h)

-- a quiet call is none of these
quiet-map : (o : ℕ) (c : Call) → is_quiet_call c ≡ true → is_map_call o c ≡ false
quiet-map o (Map x) h = no h
quiet-map o _ h = refl

quiet-attach : (o : ℕ) (c : Call) → is_quiet_call c ≡ true → is_attach_call o c ≡ false
quiet-attach o (Attach x) h = no h
quiet-attach o _ h = refl

quiet-unmap : (o : ℕ) (c : Call) → is_quiet_call c ≡ true → is_unmap_call o c ≡ false
quiet-unmap o (Unmap x) h = no h
quiet-unmap o _ h = refl

quiet-exit : (c : Call) → is_quiet_call c ≡ true → is_exit_call c ≡ false
quiet-exit Exit h = no h
quiet-exit _ h = refl

quiet-write : (p : PageId) (c : Call) → is_quiet_call c ≡ true → write_covers p c ≡ false
quiet-write p (Write o off bytes) h = no h
quiet-write p _ h = refl

quiet-read : (p : PageId) (c : Call) → is_quiet_call c ≡ true → read_covers p c ≡ false
quiet-read p (Read o off len) h = no h
quiet-read p _ h = refl

quiet-tick : (c : Call) → is_quiet_call c ≡ true → is_tick_call c ≡ false
quiet-tick Tick h = no h
quiet-tick _ h = refl

quiet-wish : (o : ℕ) (c : Call) → is_quiet_call c ≡ true → wish_call o c ≡ None
quiet-wish o (SetState x word) h = no h
quiet-wish o _ h = refl

quiet-set : (c : Call) → is_quiet_call c ≡ true → set_by c ≡ None
quiet-set (SetState x word) h = no h
quiet-set _ h = refl

quiet-byte : (o b : ℕ) (c : Call) → is_quiet_call c ≡ true → byte_call o b c ≡ None
quiet-byte o b (Write x off bytes) h = no h
quiet-byte o b _ h = refl

quiet-band : (t : ℕ) (c : Call) → is_quiet_call c ≡ true → band_call t c ≡ None
quiet-band t (SetBand x band) h = no h
quiet-band t _ h = refl

quiet-active : (c : Call) → is_quiet_call c ≡ true → active_call c ≡ None
quiet-active (Active on) h = no h
quiet-active _ h = refl

quiet-limits : (t : ℕ) (c : Call) → is_quiet_call c ≡ true → limits_call t c ≡ None
quiet-limits t (SetLimits x a i) h = no h
quiet-limits t _ h = refl

-- so an entry that is refused or quiet is none of these
test-off : (a : Bool) (c : Call) (k : Call → Bool) → ((c : Call) → is_quiet_call c ≡ true → k c ≡ false) → (if a then is_quiet_call c else not (is_tick_call c)) ≡ true → (a && k c) ≡ false
test-off true c k off h = off c h
test-off false c k off h = refl

gift-off : {A : Type 0} (a : Bool) (c : Call) (k : Call → Option A) → ((c : Call) → is_quiet_call c ≡ true → k c ≡ None) → (if a then is_quiet_call c else not (is_tick_call c)) ≡ true → (if a then k c else None) ≡ None
gift-off true c k off h = off c h
gift-off false c k off h = refl

not-true : (b : Bool) → not b ≡ true → b ≡ false
not-true false h = refl
not-true true h = no h

tick-off : (a : Bool) (c : Call) → (if a then is_quiet_call c else not (is_tick_call c)) ≡ true → is_tick_call c ≡ false
tick-off true c h = quiet-tick c h
tick-off false c h = not-true (is_tick_call c) h

and-both : (a b : Bool) → (a && b) ≡ true → (a ≡ true) × (b ≡ true)
and-both true b h = (refl, h)
and-both false b h = no h

quiet-purged : (r : Reply) → is_quiet_reply r ≡ true → purged_by r ≡ None
quiet-purged (Purged o) h = no h
quiet-purged _ h = refl

quiet-killed : (r : Reply) → is_quiet_reply r ≡ true → killed_by r ≡ None
quiet-killed (Killed t cause) h = no h
quiet-killed _ h = refl

quiet-aged : (r : Reply) → is_quiet_reply r ≡ true → aged_tasks r ≡ None
quiet-aged (Aged ts) h = no h
quiet-aged _ h = refl

quiet-move : (p : PageId) (r : Reply) → is_quiet_reply r ≡ true → move_of p r ≡ None
quiet-move p (Moved move q) h = no h
quiet-move p _ h = refl

quiet-deactivation : (r : Reply) → is_quiet_reply r ≡ true → is_deactivation r ≡ false
quiet-deactivation (Moved move q) h = no h
quiet-deactivation _ h = refl

-- all that a quiet entry doesn't say
pub record IsSilent (e : Entry) : Type 0 where
  pub map : (o : ℕ) → (accepted e && is_map_call o e.call) ≡ false
  pub attach : (o : ℕ) → (accepted e && is_attach_call o e.call) ≡ false
  pub unmap : (o : ℕ) → (accepted e && is_unmap_call o e.call) ≡ false
  pub exit : (accepted e && is_exit_call e.call) ≡ false
  pub write : (p : PageId) → (accepted e && write_covers p e.call) ≡ false
  pub read : (p : PageId) → (accepted e && read_covers p e.call) ≡ false
  pub tick : is_tick_call e.call ≡ false
  pub wish : (o : ℕ) → (if accepted e then wish_call o e.call else None) ≡ None
  pub set : (if accepted e then set_by e.call else None) ≡ None
  pub byte : (o b : ℕ) → (if accepted e then byte_call o b e.call else None) ≡ None
  pub band : (t : ℕ) → (if accepted e then band_call t e.call else None) ≡ None
  pub active : (if accepted e then active_call e.call else None) ≡ None
  pub limits : (t : ℕ) → (if accepted e then limits_call t e.call else None) ≡ None
  pub purged : purged_by e.reply ≡ None
  pub killed : killed_by e.reply ≡ None
  pub aged : aged_tasks e.reply ≡ None
  pub move : (p : PageId) → move_of p e.reply ≡ None
  pub deactivation : is_deactivation e.reply ≡ false

pub quiet-silent : (e : Entry) → is_quiet e ≡ true → IsSilent e
quiet-silent e q =
    let a = accepted e in
    let c = e.call in
    let both = and-both (is_quiet_reply e.reply) (if a then is_quiet_call c else not (is_tick_call c)) q in
    let r = both.0 in
    let h = both.1 in
    record {
      map = λ o. test-off a c (is_map_call o) (quiet-map o) h;
      attach = λ o. test-off a c (is_attach_call o) (quiet-attach o) h;
      unmap = λ o. test-off a c (is_unmap_call o) (quiet-unmap o) h;
      exit = test-off a c is_exit_call quiet-exit h;
      write = λ p. test-off a c (write_covers p) (quiet-write p) h;
      read = λ p. test-off a c (read_covers p) (quiet-read p) h;
      tick = tick-off a c h;
      wish = λ o. gift-off a c (wish_call o) (quiet-wish o) h;
      set = gift-off a c set_by quiet-set h;
      byte = λ o b. gift-off a c (byte_call o b) (quiet-byte o b) h;
      band = λ t. gift-off a c (band_call t) (quiet-band t) h;
      active = gift-off a c active_call quiet-active h;
      limits = λ t. gift-off a c (limits_call t) (quiet-limits t) h;
      purged = quiet-purged e.reply r;
      killed = quiet-killed e.reply r;
      aged = quiet-aged e.reply r;
      move = λ p. quiet-move p e.reply r;
      deactivation = quiet-deactivation e.reply r;
    }
