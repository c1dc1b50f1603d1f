-- The stamps of two tasks differ in every legal history, and so who is killed for pressure is the one least task.
use Rattle.std.proofs.Common.{◌≡◌, ℕ, suc, ◌+◌, ◌<◌, ◌≤◌, List, [], ◌∷◌, length, get_or, Option, Some, None, refl, sym, ap, ap₂, ◌∙◌, Bool, true, false, not, ◌&&◌, ◌||◌, filter, find, nat_eq, nat_le, nat_lt, if◌then◌else◌, inl, inr, ◌⊎◌, arith, zero-le}
use Rattle.std.specs.Option.{option_map_or, unwrap_or}
use Rattle.std.specs.Prelude.{option_map, is_some, position}
use Rattle.std.specs.List.{list_any}
use Rattle.std.proofs.lemmas.Bool.{false≢true, true≢false, cases_lt}
use Rattle.std.proofs.lemmas.Bool.Decides.{eqb_tells, nat_tests}
use Rattle.std.proofs.lemmas.List.Quantifiers.{position-Some}
use Rattle.kern_ids.specs.declared.entries.Entry.{Entry}
use Rattle.kern_ids.specs.declared.calls.Call.{Call}
use Rattle.kern_ids.specs.declared.calls.Call.TheVariants.{SetBand, Active, Tick, Jetsam}
use Rattle.kern_ids.specs.declared.replies.Cause.{Cause}
use Rattle.kern_ids.specs.declared.replies.Cause.TheVariants.{Limit as by_limit, HighWater, Pressure}
use Rattle.kern_ids.specs.declared.replies.Refusal.{Refusal}
use Rattle.kern_ids.specs.declared.replies.Reply.{Reply}
use Rattle.kern_ids.specs.declared.replies.Reply.TheVariants.{Aged, Killed, Quiet, NoVictim, Refused}
use Rattle.kernel_model.specs.System.{System}
use Rattle.kernel_model.specs.Newest.{newest}
use Rattle.kernel_model.specs.Events.{task_of, is_reply}
use Rattle.kernel_model.specs.Mapping.{tasks_of}
use Rattle.kernel_model.specs.Pages.{free}
use Rattle.kernel_model.specs.Answers.{answer}
use Rattle.kernel_model.specs.Bands.{band, bstamp, placing, Placing, sets_band, changes, wish, differs, active, aged_place, aged_tasks, is_tick_call}
use Rattle.kernel_model.specs.Histories.{IsLegal}
use Rattle.kernel_model.specs.Lists.{least, pair_lt, some_if}
use Rattle.kernel_model.specs.Victims.{victim, killed_for, least_task, over_fatal, over_soft, is_eligible, band_lt}
use Rattle.kernel_model.specs.Laws.Order.{Has}
use Rattle.kernel_model.specs.Laws.Kinds.{tells}
use Rattle.kernel_model.specs.Laws.Legal.{IsPressed}
use Rattle.kernel_model.proofs.Laws.Order.{find-has, filter-has, has-filter, any-has, any-none}
use Rattle.kernel_model.proofs.Laws.Queues.{placing-bound, range-has, has-range}
use Rattle.kernel_model.proofs.Laws.Answers.{refused, gets, answer-cases, answer-tells, legal-tells}

cases_bool : (b : Bool) → (b ≡ true) ⊎ (b ≡ false)
cases_bool true = inl refl
cases_bool false = inr refl

both_true : (a b : Bool) → (a && b) ≡ true → (a ≡ true) × (b ≡ true)
both_true true b h = (refl, h)
both_true false b h = absurd (false≢true h)

-- one task is placed by a SetBand and by an Active
band_test : (a m by w b : Bool) (n : ℕ) → (is_some (if a then some_if m n else None) || (option_map_or (differs b) (if a && by then None else None) false && w)) ≡ true → m ≡ true
band_test a true by w b n h = refl
band_test true false true w b n h = absurd (false≢true h)
band_test true false false w b n h = absurd (false≢true h)
band_test false false by w b n h = absurd (false≢true h)

abbrev no_band : Option ℕ
no_band = None

active_test : (a by w b on : Bool) → (is_some (if a then no_band else no_band) || (option_map_or (differs b) (if a && by then Some on else None) false && w)) ≡ true → by ≡ true
active_test a true w b on h = refl
active_test true false w b on h = absurd (false≢true h)
active_test false false w b on h = absurd (false≢true h)

other_test : (a by w b : Bool) → (is_some (if a then no_band else no_band) || (option_map_or (differs b) (if a && by then None else None) false && w)) ≡ true → ⊥
other_test true true w b h = false≢true h
other_test true false w b h = false≢true h
other_test false by w b h = false≢true h

nat_is : (a b : ℕ) → nat_eq a b ≡ true → a ≡ b
nat_is a b h = elim (eqb_tells a b) [ inl same ↦ same.1 | inr other ↦ absurd (false≢true (sym other.0 ∙ h)) ]

by_one : (t u : ℕ) (x : Option ℕ) → option_map_or (nat_eq t) x false ≡ true → option_map_or (nat_eq u) x false ≡ true → t ≡ u
by_one t u (Some x) h k = nat_is t x h ∙ sym (nat_is u x k)
by_one t u None h k = absurd (false≢true h)

-- the entry places t by its call
abbrev placed_by_call : System → ℕ → List Entry → Entry → Bool
placed_by_call boot t before e = is_some (sets_band t e) || (changes boot before e t && nat_eq (wish boot before t) 0)

abbrev at_call : ℕ → Call → Reply → Entry
at_call who call reply = record { who = who; call = call; reply = reply }

one_placed : (boot : System) (before : List Entry) (who : ℕ) (call : Call) (reply : Reply) (t u : ℕ) → placed_by_call boot t before (at_call who call reply) ≡ true → placed_by_call boot u before (at_call who call reply) ≡ true → t ≡ u
one_placed boot before who (SetBand x b) reply t u h k =
    let acc = is_reply reply in
    nat_is t x (band_test acc (nat_eq t x) (option_map_or (nat_eq t) (task_of boot who) false) (nat_eq (wish boot before t) 0) (active boot before t) b h)
    ∙ sym (nat_is u x (band_test acc (nat_eq u x) (option_map_or (nat_eq u) (task_of boot who) false) (nat_eq (wish boot before u) 0) (active boot before u) b k))
one_placed boot before who (Active on) reply t u h k =
    let acc = is_reply reply in
    by_one t u (task_of boot who) (active_test acc (option_map_or (nat_eq t) (task_of boot who) false) (nat_eq (wish boot before t) 0) (active boot before t) on h) (active_test acc (option_map_or (nat_eq u) (task_of boot who) false) (nat_eq (wish boot before u) 0) (active boot before u) on k)
one_placed boot before who call reply t u h k = absurd (other_test (is_reply reply) (option_map_or (nat_eq t) (task_of boot who) false) (nat_eq (wish boot before t) 0) (active boot before t) h)

-- and no Tick places by its call
tick_places_none : (boot : System) (before : List Entry) (who : ℕ) (call : Call) (reply : Reply) (t : ℕ) → is_tick_call call ≡ true → placed_by_call boot t before (at_call who call reply) ≡ true → ⊥
tick_places_none boot before who Tick reply t k h = other_test (is_reply reply) (option_map_or (nat_eq t) (task_of boot who) false) (nat_eq (wish boot before t) 0) (active boot before t) h
tick_places_none boot before who _ reply t k h = false≢true k

aged_is_tick : (r : Reply) (c : Call) (ts : List ℕ) → aged_tasks r ≡ Some ts → tells r c ≡ true → is_tick_call c ≡ true
aged_is_tick (Aged ts) c us h t = t
aged_is_tick _ c us h t = absurd (cc)

-- two tasks in one place of a list are one
same_place : (ts : List ℕ) (t u i : ℕ) → position (nat_eq t) ts ≡ Some i → position (nat_eq u) ts ≡ Some i → t ≡ u
same_place ts t u i h k =
    let p = position-Some (nat_eq t) ts i 0 h in
    let q = position-Some (nat_eq u) ts i 0 k in
    nat_is t (get_or ts i 0) p.1 ∙ sym (nat_is u (get_or ts i 0) q.1)

-- a placing by the call, by the list, or the old one
abbrev placed_anew : Bool → Option ℕ → ℕ → Placing → Placing
placed_anew b i n was = unwrap_or (if b then Some (record { aged = false; bstamp = (suc n, 0) }) else option_map (λ i. record { aged = true; bstamp = (suc n, i) }) i) was

stamps_apart : (bt bu : Bool) (it iu : Option ℕ) (n : ℕ) (wt wu : Placing) → (bt ≡ true → bu ≡ true → ⊥) → (bt ≡ true → (i : ℕ) → iu ≡ Some i → ⊥) → (bu ≡ true → (i : ℕ) → it ≡ Some i → ⊥) → ((i : ℕ) → it ≡ Some i → iu ≡ Some i → ⊥) → wt.bstamp.0 ≤ n → wu.bstamp.0 ≤ n → (wt.bstamp ≡ wu.bstamp → ⊥) → (placed_anew bt it n wt).bstamp ≡ (placed_anew bu iu n wu).bstamp → ⊥
stamps_apart true true it iu n wt wu a b c d lt lu old h = a refl refl
stamps_apart true false it (Some i) n wt wu a b c d lt lu old h = b refl i refl
stamps_apart true false it None n wt wu a b c d lt lu old h = let k = ap (λ x. x.0) h in absurd (omega arith)
stamps_apart false true (Some i) iu n wt wu a b c d lt lu old h = c refl i refl
stamps_apart false true None iu n wt wu a b c d lt lu old h = let k = ap (λ x. x.0) h in absurd (omega arith)
stamps_apart false false (Some i) (Some j) n wt wu a b c d lt lu old h = d i refl (ap (λ x. Some x.1) (sym h))
stamps_apart false false (Some i) None n wt wu a b c d lt lu old h = let k = ap (λ x. x.0) h in absurd (omega arith)
stamps_apart false false None (Some j) n wt wu a b c d lt lu old h = let k = ap (λ x. x.0) h in absurd (omega arith)
stamps_apart false false None None n wt wu a b c d lt lu old h = old h

aged_gives : (x : Option (List ℕ)) (t i : ℕ) → option_map_or (position (nat_eq t)) x None ≡ Some i → (ts : List ℕ) × (x ≡ Some ts) × (position (nat_eq t) ts ≡ Some i)
aged_gives (Some ts) t i h = (ts, refl, h)
aged_gives None t i h = absurd (cc)

same_list : (u i : ℕ) {x : Option (List ℕ)} {ts us : List ℕ} → x ≡ Some ts → x ≡ Some us → position (nat_eq u) us ≡ Some i → position (nat_eq u) ts ≡ Some i
same_list u i {x} {ts} {us} h k p = let e : ts ≡ us = cc in ap (position (nat_eq u)) e ∙ p

-- two tasks never have one stamp
pub bstamps-differ : (boot : System) (past : List Entry) (t u : ℕ) → IsLegal boot past → (t ≡ u → ⊥) → bstamp boot past t ≡ bstamp boot past u → ⊥
unfolding placing newest
bstamps-differ boot [] t u l d h = d (ap (λ x. x.1) h)
bstamps-differ boot (e ∷ before) t u l d h =
    let tick : (v i : ℕ) → aged_place v e ≡ Some i → is_tick_call e.call ≡ true = λ v i k. (let g = aged_gives (aged_tasks e.reply) v i k in aged_is_tick e.reply e.call g.0 g.1 (legal-tells boot e before l)) in
    stamps_apart (placed_by_call boot t before e) (placed_by_call boot u before e) (aged_place t e) (aged_place u e) (length before) (placing boot before t) (placing boot before u)
    (λ a b. d (one_placed boot before e.who e.call e.reply t u a b))
    (λ a i k. tick_places_none boot before e.who e.call e.reply t (tick u i k) a)
    (λ a i k. tick_places_none boot before e.who e.call e.reply u (tick t i k) a)
    (λ i j k. let g = aged_gives (aged_tasks e.reply) t i j in let f = aged_gives (aged_tasks e.reply) u i k in d (same_place g.0 t u i g.2 (same_list u i g.1 f.1 f.2)))
    (placing-bound boot before t) (placing-bound boot before u)
    (bstamps-differ boot before t u l.2 d) h

-- lower in the bands is an order
abbrev lex : ℕ → ℕ → ℕ × ℕ → ℕ × ℕ → Bool
lex a b p q = nat_lt a b || (nat_eq a b && pair_lt p q)

lex_asym : (a b : ℕ) (p q : ℕ × ℕ) → lex a b p q ≡ true → lex b a q p ≡ false
lex_asym a b p q h = grind (arith, nat_tests)

lex_trans : (a b c : ℕ) (p q r : ℕ × ℕ) → lex a b p q ≡ true → lex b c q r ≡ true → lex a c p r ≡ true
lex_trans a b c p q r h k = grind (arith, nat_tests)

pub band_lt-asym : (boot : System) (past : List Entry) (t u : ℕ) → band_lt boot past t u ≡ true → band_lt boot past u t ≡ false
band_lt-asym boot past t u h = lex_asym (band boot past t) (band boot past u) (bstamp boot past t) (bstamp boot past u) h

pub band_lt-trans : (boot : System) (past : List Entry) (t u v : ℕ) → band_lt boot past t u ≡ true → band_lt boot past u v ≡ true → band_lt boot past t v ≡ true
band_lt-trans boot past t u v h k = lex_trans (band boot past t) (band boot past u) (band boot past v) (bstamp boot past t) (bstamp boot past u) (bstamp boot past v) h k

some_none : {A : Type 0} {x : A} → Some x ≡ None → ⊥
some_none h = cc

not_le : (m n : ℕ) → nat_le m n ≡ false → n < m
not_le m n h = grind (arith, nat_tests)

nat_same : (a b : ℕ) → a ≡ b → nat_eq a b ≡ true
nat_same a b h = grind (arith, nat_tests)

itself : {A : Type 0} (less : A → A → Bool) → ((x y : A) → less x y ≡ true → less y x ≡ false) → (x : A) → less x x ≡ false
itself less asym x = elim (cases_bool (less x x)) [ inl t ↦ asym x x t | inr f ↦ f ]

none_found : {A : Type 0} (p : A → Bool) (xs : List A) (x : A) → Has xs x → p x ≡ true → find p xs ≡ None → ⊥
none_found p [] x h t n = h
none_found p (y ∷ ys) x h t n = elim (cases_bool (p y)) [
  | inl holds ↦ some_none (rw holds at n)
  | inr fails ↦ elim h [ inl e ↦ absurd (true≢false (sym t ∙ ap p (sym e) ∙ fails)) | inr m ↦ none_found p ys x m t (rw fails at n) ]
]

-- a list that isn't empty has a least element
minimal : {A : Type 0} (less : A → A → Bool) → ((x y : A) → less x y ≡ true → less y x ≡ false) → ((x y z : A) → less x y ≡ true → less y z ≡ true → less x z ≡ true) → (x : A) (xs : List A) → (m : A) × Has (x ∷ xs) m × ((y : A) → Has (x ∷ xs) y → less y m ≡ false)
minimal less asym trans x [] = (x, inl refl, λ y h. elim h [ inl e ↦ ap (λ z. less z x) (sym e) ∙ itself less asym x | inr f ↦ absurd f ])
minimal {A} less asym trans x (z ∷ zs) =
    let q = minimal less asym trans z zs in
    elim (cases_bool (less x q.0)) [
      | inl lower ↦ (
        x,
        inl refl,
        λ y h. elim h [
          | inl e ↦ ap (λ w. less w x) (sym e) ∙ itself less asym x
          | inr there ↦ elim (cases_bool (less y x)) [ inl t ↦ absurd (true≢false (sym (trans y x q.0 t lower) ∙ q.2 y there)) | inr f ↦ f ]
        ],
      )
      | inr not_lower ↦ (q.0, inr q.1, λ y h. elim h [ inl e ↦ ap (λ w. less w q.0) (sym e) ∙ not_lower | inr there ↦ q.2 y there ])
    ]

pub least-none : {A : Type 0} (less : A → A → Bool) (xs : List A) (x : A) → ((x y : A) → less x y ≡ true → less y x ≡ false) → ((x y z : A) → less x y ≡ true → less y z ≡ true → less x z ≡ true) → least less xs ≡ None → Has xs x → ⊥
least-none less [] x asym trans n h = h
least-none {A} less (z ∷ zs) x asym trans n h =
    let q = minimal less asym trans z zs in
    none_found (λ x. not (list_any (λ y. less y x) (z ∷ zs))) (z ∷ zs) q.0 q.1 (ap not (any-none (λ y. less y q.0) (z ∷ zs) q.2)) n

pub least-lowest : {A : Type 0} (less : A → A → Bool) (xs : List A) (x y : A) → least less xs ≡ Some x → Has xs y → less y x ≡ false
least-lowest less xs x y h m = elim (cases_bool (less y x)) [
  | inl t ↦ absurd (true≢false (sym (find-has (λ x. not (list_any (λ y. less y x) xs)) xs x h).1 ∙ ap not (any-has (λ y. less y x) xs y m t)))
  | inr f ↦ f
]

-- how a kill for pressure comes
killed_cause : (t : ℕ) (a : Option ℕ) (b : Bool) (c d : Option ℕ) → option_map_or (killed_for by_limit) a (if b then Quiet else option_map_or (killed_for HighWater) c (option_map_or (killed_for Pressure) d NoVictim)) ≡ Killed t Pressure → (a ≡ None) × (b ≡ false) × (c ≡ None) × (d ≡ Some t)
killed_cause t (Some x) b c d h = absurd (cc)
killed_cause t None true c d h = absurd (cc)
killed_cause t None false (Some x) d h = absurd (cc)
killed_cause t None false None (Some x) h = (refl, refl, refl, cc)
killed_cause t None false None None h = absurd (cc)

lex_first : (a b : ℕ) (p q : ℕ × ℕ) → a < b → lex a b p q ≡ true
lex_first a b p q h = grind (arith, nat_tests)

lex_second : (a b : ℕ) (p q : ℕ × ℕ) → a ≡ b → lex a b p q ≡ false → pair_lt p q ≡ false
lex_second a b p q e h = grind (arith, nat_tests)

pair_first : (p q : ℕ × ℕ) → p.0 < q.0 → pair_lt p q ≡ true
pair_first p q h = grind (arith, nat_tests)

pair_second : (p q : ℕ × ℕ) → p.0 ≡ q.0 → p.1 < q.1 → pair_lt p q ≡ true
pair_second p q e h = grind (arith, nat_tests)

pair_cases : (p q : ℕ × ℕ) → pair_lt q p ≡ false → (p ≡ q → ⊥) → pair_lt p q ≡ true
pair_cases p q h d = elim (cases_lt p.0 q.0) [
  | inl l ↦ pair_first p q l
  | inr ge ↦ elim (cases_lt q.0 p.0) [
    | inl g ↦ absurd (true≢false (sym (pair_first q p g) ∙ h))
    | inr le ↦ (let e : p.0 ≡ q.0 = omega arith in elim (cases_lt p.1 q.1) [
      | inl l ↦ pair_second p q e l
      | inr ge' ↦ elim (cases_lt q.1 p.1) [
        | inl g ↦ absurd (true≢false (sym (pair_second q p (sym e) g) ∙ h))
        | inr le' ↦ absurd (d (let f : p.1 ≡ q.1 = omega arith in ap₂ (λ x y. (x, y)) e f))
      ]
    ])
  ]
]

lex_cases : (a b : ℕ) (p q : ℕ × ℕ) → lex b a q p ≡ false → (p ≡ q → ⊥) → (a < b) ⊎ ((a ≡ b) × (pair_lt p q ≡ true))
lex_cases a b p q h d = elim (cases_lt a b) [
  | inl l ↦ inl l
  | inr ge ↦ elim (cases_lt b a) [
    | inl g ↦ absurd (true≢false (sym (lex_first b a q p g) ∙ h))
    | inr le ↦ (let e : a ≡ b = omega arith in inr (e, pair_cases p q (lex_second b a q p (sym e) h) d))
  ]
]

module _ (boot : System) (past : List Entry) where
  task_there : (u : ℕ) → u < length boot.tasks → Has (tasks_of boot) u
  task_there u l = range-has 0 (length boot.tasks) u zero-le (let m : u < 0 + length boot.tasks = omega arith in m)

  none_such : (p : ℕ → Bool) → least_task boot past p ≡ None → (u : ℕ) → u < length boot.tasks → p u ≡ false
  none_such p n u l = elim (cases_bool (p u)) [
    | inl t ↦ absurd (least-none (band_lt boot past) (filter p (tasks_of boot)) u (band_lt-asym boot past) (band_lt-trans boot past) n (has-filter p (tasks_of boot) u (task_there u l) t))
    | inr f ↦ f
  ]

pub victim-pressed : (boot : System) (past : List Entry) (t : ℕ) → IsLegal boot past → victim boot past ≡ Killed t Pressure → IsPressed boot past t
unfolding victim
victim-pressed boot past t l h =
    let k = killed_cause t (least_task boot past (over_fatal boot past)) (nat_le boot.params.critical (free boot past)) (least_task boot past (over_soft boot past)) (least_task boot past (is_eligible boot past)) h in
    let there = find-has (λ x. not (list_any (λ y. band_lt boot past y x) (filter (is_eligible boot past) (tasks_of boot)))) (filter (is_eligible boot past) (tasks_of boot)) t k.3 in
    record {
      declared = let l = has-range 0 (length boot.tasks) t (filter-has (is_eligible boot past) (tasks_of boot) t there.0).0 in omega (arith, l);
      eligible = (filter-has (is_eligible boot past) (tasks_of boot) t there.0).1;
      scarce = not_le boot.params.critical (free boot past) k.1;
      none_fatal = none_such boot past (over_fatal boot past) k.0;
      none_soft = none_such boot past (over_soft boot past) k.2;
      least = λ u b e d. lex_cases (band boot past t) (band boot past u) (bstamp boot past t) (bstamp boot past u)
          (least-lowest (band_lt boot past) (filter (is_eligible boot past) (tasks_of boot)) t u k.3 (has-filter (is_eligible boot past) (tasks_of boot) u (task_there boot past u b) e))
          (bstamps-differ boot past t u l (λ s. true≢false (sym (nat_same t u s) ∙ d)));
    }

killed_refused : {t : ℕ} {c : Cause} {why : Refusal} → Killed t c ≡ Refused why → ⊥
killed_refused h = cc

killed_answer : (boot : System) (before : List Entry) (who : ℕ) (call : Call) (t : ℕ) (cause : Cause) → Killed t cause ≡ answer boot before who call → victim boot before ≡ Killed t cause
killed_answer boot before who Jetsam t cause h = elim (answer-cases boot before who Jetsam) [ refused why r a ↦ absurd (killed_refused (h ∙ a)) | gets r a ↦ sym (h ∙ a) ]
killed_answer boot before who call t cause h = absurd (false≢true (ap (λ r. tells r call) h ∙ answer-tells boot before who call))

-- a task that a legal history kills for pressure
pub killed-pressed : (boot : System) (e : Entry) (before : List Entry) (t : ℕ) → IsLegal boot (e ∷ before) → e.reply ≡ Killed t Pressure → IsPressed boot before t
killed-pressed boot e before t l h = victim-pressed boot before t l.2 (killed_answer boot before e.who e.call t Pressure (sym h ∙ l.1))
