-- What a call touches is what it needs.
use Rattle.std.proofs.Common.{◌≡◌, ℕ, zero, suc, ◌<◌, List, [], ◌∷◌, ◌++◌, length, Option, Some, None, Bool, true, false, IsTrue, refl, sym, ap, ◌∙◌, subst, arith}
use Rattle.std.specs.List.{Contains}
use Rattle.std.specs.Option.{option_map_or}
use Rattle.std.proofs.lemmas.Bool.{and_parts}
use Rattle.std.proofs.lemmas.Bool.Decides.{nat_tests}
use Rattle.kern_ids.specs.declared.entries.Entry.{Entry}
use Rattle.kern_ids.specs.declared.calls.Call.{Call}
use Rattle.kern_ids.specs.declared.calls.Call.TheVariants.{Map, Write, Read, SetState, PurgeOne, Forced, Scan}
use Rattle.kern_ids.specs.declared.replies.Reply.{Reply}
use Rattle.kern_ids.specs.declared.replies.Reply.TheVariants.{Purged}
use Rattle.kern_ids.specs.StateWord.{decoded}
use Rattle.kernel_model.specs.System.{System}
use Rattle.kernel_model.specs.Answers.{answer}
use Rattle.kernel_model.specs.Contents.{is_ask_empty}
use Rattle.kernel_model.specs.Events.{purged_by, task_of}
use Rattle.kernel_model.specs.Groups.{objects_of}
use Rattle.kernel_model.specs.Histories.{fits, names_fit, same, is_task_call}
use Rattle.std.specs.Prelude.{is_some, nat_lt, ◌&&◌, if◌then◌else◌}
use Rattle.kernel_model.specs.Turns.{answered}
use Rattle.kernel_model.specs.Laws.Kinds.{is_purging_call}
use Rattle.kernel_model.specs.Laws.Order.{Has}
use Rattle.kernel_model.proofs.Laws.Answers.{answer-tells, purge-none}
use Rattle.kernel_model.proofs.Laws.Purges.{PurgedBy, one, scan_one, force, purged-by, pick-chosen, forced-chosen}
use Rattle.kernel_model.proofs.Laws.Queues.{has-range}
use Rattle.kernel_core.specs.declared.need.Need.{Need}
use Rattle.kernel_core.specs.declared.need.Need.TheVariants.{Nothing, Bytes as NeedsBytes}
use Rattle.kernel_core.specs.Need.{named, or_purged}
use Rattle.kernel_core.specs.Touches.{touched, number_of, named_number, needed_number, objects_in, NeedsAtMost, IsDeclared}

-- the parts of what is needed
pub or_purged-number : (n : Need) (r : Reply) → (o : Option ℕ) × (number_of (or_purged n r) ≡ o)
or_purged-number n r = (number_of (or_purged n r), refl)

some_is : (x y : ℕ) → Some x ≡ Some y → x ≡ y
some_is x y e = cc

contains_one : (x i : ℕ) → Contains (x ∷ []) i → x ≡ i
contains_one x i (zero, l, e) = e
contains_one x i (suc k, l, e) = absurd (omega arith)

contains_none : (i : ℕ) → Contains [] i → ⊥
contains_none i (k, l, e) = omega arith

-- a call that names the object whose bytes it needs is no purge
named-purges_not : (call : Call) (o : ℕ) → named_number call ≡ Some o → is_purging_call call ≡ false
named-purges_not PurgeOne o h = absurd (cc)
named-purges_not Forced o h = absurd (cc)
named-purges_not Scan o h = absurd (cc)
named-purges_not call o h = refl

pub named-purged : (boot : System) (past : List Entry) (who : ℕ) (call : Call) (o : ℕ) → named_number call ≡ Some o → purged_by (answer boot past who call) ≡ None
named-purged boot past who call o h = purge-none (answer boot past who call) call (answer-tells boot past who call) (named-purges_not call o h)

touched_needs : (n : Need) (r : Reply) → ((o : ℕ) → number_of n ≡ Some o → purged_by r ≡ None) → (i : ℕ) → Contains (objects_in (number_of n) ++ objects_in (purged_by r)) i → number_of (or_purged n r) ≡ Some i
touched_needs (NeedsBytes o) r quiet i k = ap Some (contains_one o i (subst (λ (p : Option ℕ). Contains (o ∷ objects_in p) i) (quiet o refl) k))
touched_needs Nothing (Purged o) quiet i k = ap Some (contains_one o i k)
touched_needs Nothing r quiet i k = absurd (contains_none i k)

-- the entry of a call touches nothing but the object that it needs
pub touched-needed : (boot : System) (past : List Entry) (who : ℕ) (call : Call) (i : ℕ) → Contains (touched (answered boot past (who, call))) i → needed_number boot past who call ≡ Some i
touched-needed boot past who call i k = touched_needs (named call) (answer boot past who call) (named-purged boot past who call) i k

-- an object that is needed is declared
chosen_declared : (boot : System) (past : List Entry) (o : ℕ) (call : Call) → PurgedBy boot past o call → Has (objects_of boot) o
chosen_declared boot past o call (one h) = (pick-chosen boot past o h).chosen.declared
chosen_declared boot past o call (scan_one h) = (pick-chosen boot past o h).chosen.declared
chosen_declared boot past o call (force h) = (forced-chosen boot past o h).2.declared

number_if : (b : Bool) (x o : ℕ) → number_of (if b then NeedsBytes x else Nothing) ≡ Some o → x ≡ o
number_if true x o h = some_is x o h
number_if false x o h = absurd (cc)

below : (x n o : ℕ) → nat_lt x n ≡ true → x ≡ o → o < n
below x n o t e = let l : x < n = grind (arith, nat_tests, t) in omega arith

pub named-declared : (boot : System) (call : Call) (o : ℕ) → names_fit boot call ≡ true → named_number call ≡ Some o → o < length boot.objects
named-declared boot (Map x) o f h = below x (length boot.objects) o f (some_is x o h)
named-declared boot (Write x off bytes) o f h = below x (length boot.objects) o (and_parts (nat_lt x (length boot.objects)) (nat_lt 0 (length bytes)) f).0 (some_is x o h)
named-declared boot (Read x off len) o f h = below x (length boot.objects) o f (some_is x o h)
named-declared boot (SetState x word) o f h = below x (length boot.objects) o f (number_if (option_map_or is_ask_empty (decoded word) false) x o h)
named-declared boot call o f h = absurd (cc)

purged_declared : (boot : System) (past : List Entry) (who : ℕ) (call : Call) (o : ℕ) → Purged o ≡ answer boot past who call → o < length boot.objects
purged_declared boot past who call o h = let l = (has-range 0 (length boot.objects) o (chosen_declared boot past o call (purged-by boot past who call o h))).1 in omega arith

declared_in : (boot : System) (n : Need) (r : Reply) → ((o : ℕ) → number_of n ≡ Some o → o < length boot.objects) → ((o : ℕ) → Purged o ≡ r → o < length boot.objects) → IsDeclared boot (number_of (or_purged n r))
declared_in boot (NeedsBytes o) r f g = f o refl
declared_in boot Nothing (Purged o) f g = g o refl
declared_in boot Nothing r f g = tt {0}

pub needed-declared : (boot : System) (past : List Entry) (who : ℕ) (call : Call) → IsTrue (fits boot who call) → IsDeclared boot (needed_number boot past who call)
needed-declared boot past who call f =
    let parts = and_parts (nat_lt who (length boot.sides) && same (is_task_call call) (is_some (task_of boot who))) (names_fit boot call) f in
    declared_in boot (named call) (answer boot past who call) (λ o h. named-declared boot call o parts.1 h) (λ o h. purged_declared boot past who call o h)

named_needs : (o : ℕ) (n : Need) (r : Reply) (x : ℕ) → number_of n ≡ Some x → NeedsAtMost o (number_of (or_purged n r)) → x ≡ o
named_needs o (NeedsBytes y) r x h m = sym (some_is y x h) ∙ m
named_needs o Nothing r x h m = absurd (cc)

-- the object that a call names is the one that it needs
pub named-needed : (boot : System) (past : List Entry) (who : ℕ) (call : Call) (o x : ℕ) → named_number call ≡ Some x → NeedsAtMost o (needed_number boot past who call) → x ≡ o
named-needed boot past who call o x h m = named_needs o (named call) (answer boot past who call) x h m

purged_needs : (o : ℕ) (n : Need) (x : ℕ) → ((y : ℕ) → number_of n ≡ Some y → ⊥) → NeedsAtMost o (number_of (or_purged n (Purged x))) → x ≡ o
purged_needs o (NeedsBytes y) x none m = absurd (none y refl)
purged_needs o Nothing x none m = m

none_some : {x : ℕ} → None ≡ Some x → ⊥
none_some h = cc

-- and so is the one that its reply purges
pub purged-needed : (boot : System) (past : List Entry) (who : ℕ) (call : Call) (o x : ℕ) → answer boot past who call ≡ Purged x → NeedsAtMost o (needed_number boot past who call) → x ≡ o
purged-needed boot past who call o x h m =
    let q = rw h at m in
    purged_needs o (named call) x (λ (y : ℕ) (n : named_number call ≡ Some y). none_some (sym (named-purged boot past who call y n) ∙ ap purged_by h)) q
