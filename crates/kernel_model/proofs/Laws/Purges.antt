-- A purge of a legal history: which object it takes, and what it leaves.
use Rattle.std.proofs.Common.{◌≡◌, ℕ, List, [], ◌∷◌, ◌++◌, Option, Some, None, refl, sym, ap, ◌∙◌, subst, Bool, true, false, not, ◌&&◌, filter, nat_eq, nat_le, nat_lt, if◌then◌else◌, inl, inr}
use Rattle.std.specs.Option.{option_map_or}
use Rattle.std.specs.Prelude.{option_and_then}
use Rattle.std.proofs.lemmas.Bool.{false≢true}
use Rattle.kern_ids.specs.declared.entries.Entry.{Entry}
use Rattle.kern_ids.specs.declared.ids.PageId.{PageId}
use Rattle.kern_ids.specs.declared.calls.Call.{Call}
use Rattle.kern_ids.specs.declared.calls.Call.TheVariants.{PurgeOne, Forced, Scan}
use Rattle.kern_ids.specs.declared.calls.Queue.{Queue}
use Rattle.kern_ids.specs.declared.calls.Queue.TheVariants.{Obsolete, Lifo, Fifo}
use Rattle.kern_ids.specs.declared.replies.Move.TheVariants.{Deactivated, Reactivated, Freed, Compressed, Requeued}
use Rattle.kern_ids.specs.declared.replies.Refusal.{Refusal}
use Rattle.kern_ids.specs.declared.replies.Reply.TheVariants.{Purged, Refused, Moved, Idle, Enough, Nothing}
use Rattle.kernel_model.specs.System.{System}
use Rattle.kernel_model.specs.Answers.{answer}
use Rattle.kernel_model.specs.Choice.{pick, forced, first_of, places_for, groups_of}
use Rattle.kernel_model.specs.Contents.{byte, empties}
use Rattle.kernel_model.specs.Deadlines.{ripe_queue}
use Rattle.kernel_model.specs.Groups.{volatile, standing, stands_in, same_queue, first, objects_of}
use Rattle.kernel_model.specs.Histories.{IsLegal}
use Rattle.kernel_model.specs.Lists.{first_some}
use Rattle.kernel_model.specs.Pages.{placed, free, inactive_pages, stored_pages, touched_since, written}
use Rattle.kernel_model.specs.Scan.{scan, scan_rest, scan_inactive, first_active, first_inactive}
use Rattle.kernel_model.specs.Laws.Order.{Has}
use Rattle.kernel_model.specs.Laws.Kinds.{tells, is_purging_call}
use Rattle.kernel_model.proofs.Laws.Order.{find-has, filter-has}
use Rattle.kernel_model.proofs.Laws.Answers.{refused, gets, answer-cases, answer-tells}
use Rattle.kernel_model.proofs.Laws.Mapping.{unmaps-no}
use Rattle.kernel_model.proofs.Laws.Kept.{byte-kept, placed-kept}

some_here : {A B : Type 0} (f : A → Option B) (x : A) (xs : List A) (y : B) (r : Option B) → (first_some f xs ≡ Some y → (z : A) × Has xs z × (f z ≡ Some y)) → f x ≡ r → (elim r [ Some z ↦ Some z | None ↦ first_some f xs ]) ≡ Some y → (z : A) × Has (x ∷ xs) z × (f z ≡ Some y)
some_here f x xs y (Some z) rest e h = (x, inl refl, e ∙ h)
some_here f x xs y None rest e h = let q = rest h in (q.0, inr q.1, q.2)

-- the first that is something comes from an element
pub first_some-has : {A B : Type 0} (f : A → Option B) (xs : List A) (y : B) → first_some f xs ≡ Some y → (x : A) × Has xs x × (f x ≡ Some y)
first_some-has f [] y h = absurd (cc)
first_some-has {A} f (x ∷ xs) y h = some_here f x xs y (f x) (first_some-has f xs y) refl h

-- an object that a purge can take
pub record IsChosen (boot : System) (past : List Entry) (queue : Queue) (group o : ℕ) : Type 0 where
  pub stands : stands_in boot past queue group o ≡ true
  pub declared : Has (objects_of boot) o

pub first-chosen : (boot : System) (past : List Entry) (q : Queue) (g o : ℕ) → first boot past q g ≡ Some o → IsChosen boot past q g o
unfolding first
first-chosen boot past q g o h =
    let f = filter-has (stands_in boot past q g) (objects_of boot) o (find-has _ (filter (stands_in boot past q g) (objects_of boot)) o h).0 in
    record { stands = f.1; declared = f.0 }

both_true : (a b : Bool) → (a && b) ≡ true → (a ≡ true) × (b ≡ true)
both_true true b h = (refl, h)
both_true false b h = absurd (false≢true h)

queue_is : (a b : Queue) → same_queue a b ≡ true → a ≡ b
queue_is Obsolete Obsolete h = refl
queue_is Lifo Lifo h = refl
queue_is Fifo Fifo h = refl
queue_is _ _ h = absurd (false≢true h)

module _ (boot : System) (past : List Entry) (q : Queue) (g o : ℕ) (c : IsChosen boot past q g o) where
  pub chosen-volatile : volatile boot past o ≡ true
  chosen-volatile = (both_true (volatile boot past o) (same_queue (standing past o).queue q) (both_true (volatile boot past o && same_queue (standing past o).queue q) (nat_eq (standing past o).group g) c.stands).0).0

  pub chosen-queue : (standing past o).queue ≡ q
  chosen-queue = queue_is (standing past o).queue q (both_true (volatile boot past o) (same_queue (standing past o).queue q) (both_true (volatile boot past o && same_queue (standing past o).queue q) (nat_eq (standing past o).group g) c.stands).0).1

-- the choice of a ripe purge and of a forced one
pub record IsRipeChoice (boot : System) (past : List Entry) (o : ℕ) : Type 0 where
  pub ripe : Queue
  pub is_ripe : ripe_queue boot past ≡ Some ripe
  pub queue : Queue
  pub group : ℕ
  pub among : Has (places_for ripe) (queue, group)
  pub chosen : IsChosen boot past queue group o

ripe_choice : (boot : System) (past : List Entry) (o : ℕ) (r : Option Queue) → ripe_queue boot past ≡ r → option_and_then (λ q. first_of boot past (places_for q)) r ≡ Some o → IsRipeChoice boot past o
ripe_choice boot past o None e h = absurd (cc)
ripe_choice boot past o (Some r) e h =
    let f = first_some-has (λ (q, g). first boot past q g) (places_for r) o h in
    record { ripe = r; is_ripe = e; queue = f.0.0; group = f.0.1; among = f.1; chosen = first-chosen boot past f.0.0 f.0.1 o f.2 }

pub pick-chosen : (boot : System) (past : List Entry) (o : ℕ) → pick boot past ≡ Some o → IsRipeChoice boot past o
unfolding pick
pick-chosen boot past o h = ripe_choice boot past o (ripe_queue boot past) refl h

pub forced-chosen : (boot : System) (past : List Entry) (o : ℕ) → forced boot past ≡ Some o → (queue : Queue) × (group : ℕ) × IsChosen boot past queue group o
unfolding forced
forced-chosen boot past o h =
    let f = first_some-has (λ (q, g). first boot past q g) (groups_of Fifo ++ groups_of Lifo ++ groups_of Obsolete) o h in
    (f.0.0, f.0.1, first-chosen boot past f.0.0 f.0.1 o f.2)

-- by which call an object is purged
pub data PurgedBy (boot : System) (past : List Entry) (o : ℕ) : Call → Type 0 where
  one : pick boot past ≡ Some o → PurgedBy boot past o PurgeOne
  scan_one : pick boot past ≡ Some o → PurgedBy boot past o Scan
  force : forced boot past ≡ Some o → PurgedBy boot past o Forced

purged_inactive : (boot : System) (past : List Entry) (o : ℕ) (p : PageId) (t w s : Bool) → (if t then Moved Reactivated p else if w then Moved Freed p else if s then Moved Compressed p else Moved Requeued p) ≡ Purged o → ⊥
purged_inactive boot past o p true w s h = cc
purged_inactive boot past o p false true s h = cc
purged_inactive boot past o p false false true h = cc
purged_inactive boot past o p false false false h = cc

purged_first : (boot : System) (past : List Entry) (o : ℕ) (first : Option PageId) → option_map_or (scan_inactive boot past) first Idle ≡ Purged o → ⊥
purged_first boot past o None h = cc
purged_first boot past o (Some p) h = purged_inactive boot past o p (touched_since boot past p) (not (written past p)) (nat_lt (stored_pages boot past) boot.params.store) h

purged_rest : (boot : System) (past : List Entry) (o : ℕ) (x : Option ℕ) → (elim x [ Some o ↦ Purged o | None ↦ option_map_or (scan_inactive boot past) (first_inactive boot past) Idle ]) ≡ Purged o → x ≡ Some o
purged_rest boot past o (Some x) h = cc
purged_rest boot past o None h = absurd (purged_first boot past o (first_inactive boot past) h)

purged_second : (boot : System) (past : List Entry) (o : ℕ) (first : Option PageId) → option_map_or (Moved Deactivated) first (scan_rest boot past) ≡ Purged o → pick boot past ≡ Some o
purged_second boot past o None h = purged_rest boot past o (pick boot past) h
purged_second boot past o (Some p) h = absurd (cc)

purged_scan : (boot : System) (past : List Entry) (o : ℕ) (a b : Bool) → (if a then Enough else if b then option_map_or (Moved Deactivated) (first_active boot past) (scan_rest boot past) else scan_rest boot past) ≡ Purged o → pick boot past ≡ Some o
purged_scan boot past o true b h = absurd (cc)
purged_scan boot past o false true h = purged_second boot past o (first_active boot past) h
purged_scan boot past o false false h = purged_rest boot past o (pick boot past) h

pub scan-purged : (boot : System) (past : List Entry) (o : ℕ) → scan boot past ≡ Purged o → pick boot past ≡ Some o
unfolding scan
scan-purged boot past o h = purged_scan boot past o (nat_le boot.params.target (free boot past)) (nat_lt (inactive_pages boot past) boot.params.inactive) h

some_purged : (o : ℕ) (x : Option ℕ) → Purged o ≡ option_map_or Purged x Nothing → x ≡ Some o
some_purged o None h = absurd (cc)
some_purged o (Some x) h = cc

purged_refused : {o : ℕ} {why : Refusal} → Purged o ≡ Refused why → ⊥
purged_refused h = cc

pub purged-by : (boot : System) (past : List Entry) (who : ℕ) (call : Call) (o : ℕ) → Purged o ≡ answer boot past who call → PurgedBy boot past o call
purged-by boot past who PurgeOne o h = elim (answer-cases boot past who PurgeOne) [ refused why r a ↦ absurd (purged_refused (h ∙ a)) | gets r a ↦ one (some_purged o (pick boot past) (h ∙ a)) ]
purged-by boot past who Forced o h = elim (answer-cases boot past who Forced) [ refused why r a ↦ absurd (purged_refused (h ∙ a)) | gets r a ↦ force (some_purged o (forced boot past) (h ∙ a)) ]
purged-by boot past who Scan o h = elim (answer-cases boot past who Scan) [ refused why r a ↦ absurd (purged_refused (h ∙ a)) | gets r a ↦ scan_one (scan-purged boot past o (sym (h ∙ a))) ]
purged-by boot past who call o h = absurd (false≢true (ap (λ r. tells r call) h ∙ answer-tells boot past who call))

-- an object that a purge takes was volatile
by_volatile : (boot : System) (past : List Entry) (o : ℕ) (call : Call) → PurgedBy boot past o call → volatile boot past o ≡ true
by_volatile boot past o call (one h) = let c = pick-chosen boot past o h in chosen-volatile boot past c.queue c.group o c.chosen
by_volatile boot past o call (scan_one h) = let c = pick-chosen boot past o h in chosen-volatile boot past c.queue c.group o c.chosen
by_volatile boot past o call (force h) = let c = forced-chosen boot past o h in chosen-volatile boot past c.0 c.1 o c.2

pub purged-volatile : (boot : System) (e : Entry) (before : List Entry) (o : ℕ) → IsLegal boot (e ∷ before) → e.reply ≡ Purged o → volatile boot before o ≡ true
purged-volatile boot e before o l h = by_volatile boot before o e.call (purged-by boot before e.who e.call o (sym h ∙ l.1))

-- and nothing of another object changes
purging_empties : (who : ℕ) (call : Call) (o x : ℕ) (before : List Entry) → is_purging_call call ≡ true → nat_eq x o ≡ false → empties x before (record { who = who; call = call; reply = Purged o }) ≡ false
purging_empties who PurgeOne o x before c h = rw h refl
purging_empties who Forced o x before c h = rw h refl
purging_empties who Scan o x before c h = rw h refl
purging_empties who _ o x before c h = absurd (false≢true c)

purging_byte : (boot : System) (who : ℕ) (call : Call) (o x b : ℕ) (before : List Entry) → is_purging_call call ≡ true → nat_eq x o ≡ false → byte (record { who = who; call = call; reply = Purged o } ∷ before) x b ≡ byte before x b
purging_byte boot who PurgeOne o x b before c h = byte-kept (record { who = who; call = PurgeOne; reply = Purged o }) before x b (purging_empties who PurgeOne o x before c h) refl
purging_byte boot who Forced o x b before c h = byte-kept (record { who = who; call = Forced; reply = Purged o }) before x b (purging_empties who Forced o x before c h) refl
purging_byte boot who Scan o x b before c h = byte-kept (record { who = who; call = Scan; reply = Purged o }) before x b (purging_empties who Scan o x before c h) refl
purging_byte boot who _ o x b before c h = absurd (false≢true c)

purging_placed : (boot : System) (who : ℕ) (call : Call) (o : ℕ) (p : PageId) (before : List Entry) → is_purging_call call ≡ true → nat_eq p.obj o ≡ false → placed boot (record { who = who; call = call; reply = Purged o } ∷ before) p ≡ placed boot before p
purging_placed boot who PurgeOne o p before c h = let e : Entry = record { who = who; call = PurgeOne; reply = Purged o } in placed-kept boot e before p (rw (h, unmaps-no boot e before p.obj (λ t. refl) refl) refl)
purging_placed boot who Forced o p before c h = let e : Entry = record { who = who; call = Forced; reply = Purged o } in placed-kept boot e before p (rw (h, unmaps-no boot e before p.obj (λ t. refl) refl) refl)
purging_placed boot who Scan o p before c h = let e : Entry = record { who = who; call = Scan; reply = Purged o } in placed-kept boot e before p (rw (h, unmaps-no boot e before p.obj (λ t. refl) refl) refl)
purging_placed boot who _ o p before c h = absurd (false≢true c)

legal_purging : (boot : System) (e : Entry) (before : List Entry) (o : ℕ) → IsLegal boot (e ∷ before) → e.reply ≡ Purged o → is_purging_call e.call ≡ true
legal_purging boot e before o l h = ap (λ r. tells r e.call) (sym h ∙ l.1) ∙ answer-tells boot before e.who e.call

pub purged-bytes : (boot : System) (e : Entry) (before : List Entry) (o x b : ℕ) → IsLegal boot (e ∷ before) → e.reply ≡ Purged o → nat_eq x o ≡ false → byte (e ∷ before) x b ≡ byte before x b
purged-bytes boot e before o x b l h d = subst (λ r. byte (record { who = e.who; call = e.call; reply = r } ∷ before) x b ≡ byte before x b) (sym h) (purging_byte boot e.who e.call o x b before (legal_purging boot e before o l h) d)

pub purged-places : (boot : System) (e : Entry) (before : List Entry) (o : ℕ) (p : PageId) → IsLegal boot (e ∷ before) → e.reply ≡ Purged o → nat_eq p.obj o ≡ false → placed boot (e ∷ before) p ≡ placed boot before p
purged-places boot e before o p l h d = subst (λ r. placed boot (record { who = e.who; call = e.call; reply = r } ∷ before) p ≡ placed boot before p) (sym h) (purging_placed boot e.who e.call o p before (legal_purging boot e before o l h) d)
