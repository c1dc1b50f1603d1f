-- What a SetState NONVOLATILE of a legal history tells of the bytes.
use Rattle.std.proofs.Common.{◌≡◌, ℕ, List, [], ◌∷◌, Option, Some, None, refl, sym, ap, ◌∙◌, Bool, true, false, not, ◌&&◌, ◌||◌, nat_eq, if◌then◌else◌, inl, inr}
use Rattle.std.specs.Prelude.{◌↔◌, option_map, is_some}
use Rattle.std.specs.Option.{unwrap_or, option_map_or}
use Rattle.std.proofs.lemmas.Bool.{false≢true}
use Rattle.std.proofs.lemmas.Bool.Decides.{eqb_tells}
use Rattle.kern_ids.specs.declared.entries.Entry.{Entry}
use Rattle.kern_ids.specs.declared.calls.Call.{Call}
use Rattle.kern_ids.specs.declared.calls.Call.TheVariants.{SetState}
use Rattle.kern_ids.specs.declared.calls.State.{State}
use Rattle.kern_ids.specs.declared.calls.State.TheVariants.{Nonvolatile, Volatile, Empty}
use Rattle.kern_ids.specs.declared.calls.Wish.{Wish}
use Rattle.kern_ids.specs.declared.calls.Wish.TheVariants.{Nonvolatile as ask_nonvolatile, Volatile as ask_volatile, Empty as ask_empty}
use Rattle.kern_ids.specs.declared.replies.Reply.{Reply}
use Rattle.kern_ids.specs.declared.replies.Reply.TheVariants.{Old}
use Rattle.kernel_model.specs.System.{System}
use Rattle.kernel_model.specs.Newest.{newest}
use Rattle.kernel_model.specs.Events.{is_map, is_purge, asked, is_reply, wish_call}
use Rattle.kernel_model.specs.State.{state, state_asked, is_empty}
use Rattle.kernel_model.specs.Contents.{is_ask_empty}
use Rattle.kernel_model.specs.Answers.{answer}
use Rattle.kernel_model.specs.Histories.{IsLegal}
use Rattle.kernel_model.specs.Lists.{some_if}
use Rattle.kernel_model.specs.Laws.Legal.{asks_loss, lost, emptied_since}
use Rattle.kernel_model.proofs.Laws.Answers.{refused, gets, answer-cases}

-- the bytes are lost exactly where the object is EMPTY
asked_empty : (s : State) → is_empty (if is_empty s then Empty else Volatile) ≡ is_empty s
asked_empty Empty = refl
asked_empty Nonvolatile = refl
asked_empty Volatile = refl

lost_next : (m p : Bool) (a : Option Wish) (s : State) (l : Bool) → is_empty s ≡ l → is_empty (unwrap_or (if m then Some Nonvolatile else if p then Some Empty else option_map (state_asked s) a) s) ≡ unwrap_or (if m then Some false else if p then Some true else elim a [ Some w ↦ asks_loss w | None ↦ None ]) l
lost_next true p a s l h = refl
lost_next false true a s l h = refl
lost_next false false None s l h = h
lost_next false false (Some ask_nonvolatile) s l h = refl
lost_next false false (Some ask_empty) s l h = refl
lost_next false false (Some (ask_volatile q g)) s l h = asked_empty s ∙ h

pub lost-is : (past : List Entry) (o : ℕ) → is_empty (state past o) ≡ lost past o
unfolding state lost newest
lost-is [] o = refl
lost-is (e ∷ before) o = lost_next (is_map o e) (is_purge o e) (asked o e) (state before o) (lost before o) (lost-is before o)

-- what empties an object decides it
since_next : (m p n : Bool) (a : Option Wish) (was : Bool) → was ≡ false → unwrap_or (if is_some (if m then Some false else if p then Some true else elim a [ Some w ↦ asks_loss w | None ↦ None ]) then Some false else some_if ((m || p) || (option_map_or is_ask_empty a false && n)) true) was ≡ false
since_next true p n a was h = refl
since_next false true n a was h = refl
since_next false false n None was h = h
since_next false false n (Some ask_nonvolatile) was h = refl
since_next false false n (Some ask_empty) was h = refl
since_next false false n (Some (ask_volatile q g)) was h = h

pub emptied_since-none : (past : List Entry) (o : ℕ) → emptied_since past o ≡ false
unfolding emptied_since newest
emptied_since-none [] o = refl
emptied_since-none (e ∷ before) o = since_next (is_map o e) (is_purge o e) (not (is_empty (state before o))) (asked o e) (emptied_since before o) (emptied_since-none before o)

-- an accepted SetState answers the state before it
abbrev no_wish : Option Wish
no_wish = None

pub if_none : (b : Bool) (w : Wish) → (if b then no_wish else no_wish) ≡ Some w → ⊥
if_none true w h = cc
if_none false w h = cc

pub if_some : {A : Type 0} (b : Bool) (x : Option A) (w : A) → (if b then x else None) ≡ Some w → b ≡ true
if_some true x w h = refl
if_some false x w h = absurd (cc)

pub if_given : {A : Type 0} (b : Bool) (x : Option A) (w : A) → (if b then x else None) ≡ Some w → x ≡ Some w
if_given true x w h = h
if_given false x w h = absurd (cc)

pub nat_is : (a b : ℕ) → nat_eq a b ≡ true → a ≡ b
nat_is a b h = elim (eqb_tells a b) [ inl same ↦ same.1 | inr other ↦ absurd (false≢true (sym other.0 ∙ h)) ]

old_of : (boot : System) (before : List Entry) (who : ℕ) (call : Call) (reply : Reply) (o : ℕ) (w : Wish) → reply ≡ answer boot before who call → (if is_reply reply then wish_call o call else None) ≡ Some w → reply ≡ Old (state before o)
old_of boot before who (SetState x word) reply o w h a = elim (answer-cases boot before who (SetState x word)) [
  | refused why r k ↦ absurd (false≢true (ap is_reply (sym (h ∙ k)) ∙ if_some (is_reply reply) (wish_call o (SetState x word)) w a))
  | gets r k ↦ h ∙ k ∙ ap (λ y. Old (state before y)) (nat_is x o (if_some (nat_eq x o) (Rattle.kern_ids.specs.StateWord.decoded word) w (if_given (is_reply reply) (wish_call o (SetState x word)) w a)))
]
old_of boot before who call reply o w h a = absurd (if_none (is_reply reply) w a)

pub set-answer : (boot : System) (e : Entry) (before : List Entry) (o : ℕ) (w : Wish) → IsLegal boot (e ∷ before) → asked o e ≡ Some w → e.reply ≡ Old (state before o)
set-answer boot e before o w l a = old_of boot before e.who e.call e.reply o w l.1 a

old_state : Old Nonvolatile ≡ Old Empty → ⊥
old_state h = cc

old_volatile : Old Volatile ≡ Old Empty → ⊥
old_volatile h = cc

old_empty : (s : State) → (Old s ≡ Old Empty) ↔ (is_empty s ≡ true)
old_empty Empty = (λ h. refl, λ h. refl)
old_empty Nonvolatile = (λ h. absurd (old_state h), λ h. absurd (false≢true h))
old_empty Volatile = (λ h. absurd (old_volatile h), λ h. absurd (false≢true h))

-- the old state is EMPTY exactly where the newest entry that decides it lost the bytes
pub set-answer_empty : (boot : System) (e : Entry) (before : List Entry) (o : ℕ) (w : Wish) → IsLegal boot (e ∷ before) → asked o e ≡ Some w → (e.reply ≡ Old Empty) ↔ (lost before o ≡ true)
set-answer_empty boot e before o w l a = rw (set-answer boot e before o w l a, ← lost-is before o) (old_empty (state before o))
