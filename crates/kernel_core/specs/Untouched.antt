-- An entry leaves the bytes of the objects that it doesn't touch.
use Rattle.std.proofs.Common.{◌≡◌, ◌≢◌, ℕ, List, [], ◌∷◌, ◌++◌, reverse, Option, Some, None, Bool, true, false, ◌&&◌, if◌then◌else◌, refl, sym, ap, ◌∙◌, nat_eq, arith}
use Rattle.std.specs.List.{Contains}
use Rattle.std.specs.Option.{option_map_or}
use Rattle.std.proofs.lemmas.Bool.{ne_eqb}
use Rattle.std.proofs.lemmas.List.{reverse-append}
use Rattle.std.proofs.lemmas.List.Elements.{Contains-append_right, Contains-append_left}
use Rattle.kern_ids.specs.declared.entries.Entry.{Entry}
use Rattle.kern_ids.specs.declared.calls.Call.{Call}
use Rattle.kern_ids.specs.declared.calls.Call.TheVariants.{Map, Write, SetState}
use Rattle.kern_ids.specs.declared.calls.Wish.{Wish}
use Rattle.kern_ids.specs.declared.calls.Wish.TheVariants.{Nonvolatile, Volatile, Empty}
use Rattle.kern_ids.specs.StateWord.{decoded}
use Rattle.kernel_model.specs.Contents.{byte, is_ask_empty}
use Rattle.kernel_model.specs.Events.{accepted, is_map_call, wish_call, purged_by}
use Rattle.kernel_model.specs.Laws.Kinds.{touches_bytes, is_write_call}
use Rattle.kernel_model.proofs.Laws.Untouched.{byte-untouched}
use Rattle.kernel_core.specs.declared.need.Need.TheVariants.{Nothing, Bytes}
use Rattle.page_store.proofs.ContentsLemmas.{bytes_of-alike}
use Rattle.kernel_core.specs.Bodies.{content, content_after}
use Rattle.kernel_core.specs.Touches.{touched, objects_in, named_number, number_of}

some_is : (y x : ℕ) → Some y ≡ Some x → y ≡ x
some_is y x e = cc

pub and_right : (a b : Bool) → b ≡ false → (a && b) ≡ false
and_right true b h = h
and_right false b h = refl

-- a call that doesn't name the object i is no Map and no Write of it, and doesn't ask for it to be EMPTY
pub record IsApart (i : ℕ) (call : Call) : Type 0 where
  pub map : is_map_call i call ≡ false
  pub write : is_write_call i call ≡ false
  pub asks : option_map_or is_ask_empty (wish_call i call) false ≡ false

pub asks_if : (b : Bool) (w : Option Wish) → option_map_or is_ask_empty w false ≡ false → option_map_or is_ask_empty (if b then w else None) false ≡ false
asks_if true w h = h
asks_if false w h = refl

set_apart : (i x : ℕ) (w : Option Wish) → ((y : ℕ) → number_of (if option_map_or is_ask_empty w false then Bytes x else Nothing) ≡ Some y → y ≢ i) → option_map_or is_ask_empty (if nat_eq x i then w else None) false ≡ false
set_apart i x None h = asks_if (nat_eq x i) None refl
set_apart i x (Some Empty) h = rw (ne_eqb x i (h x refl)) refl
set_apart i x (Some Nonvolatile) h = asks_if (nat_eq x i) (Some Nonvolatile) refl
set_apart i x (Some (Volatile q g)) h = asks_if (nat_eq x i) (Some (Volatile q g)) refl

pub named-apart : (i : ℕ) (call : Call) → ((x : ℕ) → named_number call ≡ Some x → x ≢ i) → IsApart i call
named-apart i (Map x) h = record { map = ne_eqb x i (h x refl); write = refl; asks = refl }
named-apart i (Write x off bytes) h = record { map = refl; write = ne_eqb x i (h x refl); asks = refl }
named-apart i (SetState x word) h = record { map = refl; write = refl; asks = set_apart i x (decoded word) h }
named-apart i call h = record { map = refl; write = refl; asks = refl }

-- and a reply that doesn't purge it is no purge of it
purge_apart : (i : ℕ) (o : Option ℕ) → ((x : ℕ) → o ≡ Some x → x ≢ i) → option_map_or (nat_eq i) o false ≡ false
purge_apart i None h = refl
purge_apart i (Some x) h = ne_eqb i x (λ e. h x refl (sym e))

asks_apart : (b : Bool) (i : ℕ) (call : Call) → option_map_or is_ask_empty (wish_call i call) false ≡ false → option_map_or is_ask_empty (if b then wish_call i call else None) false ≡ false
asks_apart b i call h = asks_if b (wish_call i call) h

pub not-touched : (i : ℕ) (e : Entry) → IsApart i e.call → option_map_or (nat_eq i) (purged_by e.reply) false ≡ false → touches_bytes i e ≡ false
not-touched i e a p =
    rw (and_right (accepted e) (is_map_call i e.call) a.map, and_right (accepted e) (is_write_call i e.call) a.write, p) (asks_apart (accepted e) i e.call a.asks)

has_object : (o : Option ℕ) (x : ℕ) → o ≡ Some x → Contains (objects_in o) x
has_object (Some y) x e = (0, omega arith, some_is y x e)
has_object None x e = absurd (cc)

-- bytes that no entry touches are the same after it
pub content-kept : (e : Entry) (past : List Entry) (o : ℕ) → touches_bytes o e ≡ false → content_after (e ∷ past) o ≡ content_after past o
content-kept e past o h = bytes_of-alike (byte (e ∷ past) o) (byte past o) (λ place inside. byte-untouched e past o place h)

pub content-untouched : (h : List Entry) (e : Entry) (i : ℕ) → ¬ Contains (touched e) i → content (h ++ e ∷ []) i ≡ content h i
content-untouched h e i apart =
    let call = named_number e.call in
    let purged = purged_by e.reply in
    let named_off = named-apart i e.call (λ (x : ℕ) (n : named_number e.call ≡ Some x) (same : x ≡ i). apart (Contains-append_left (objects_in call) (objects_in purged) i (has_object call i (n ∙ ap Some same)))) in
    let purged_off = purge_apart i purged (λ (x : ℕ) (p : purged_by e.reply ≡ Some x) (same : x ≡ i). apart (Contains-append_right (objects_in call) (objects_in purged) i (has_object purged i (p ∙ ap Some same)))) in
    ap (λ past. content_after past i) (reverse-append h (e ∷ [])) ∙ content-kept e (reverse h) i (not-touched i e named_off purged_off)
