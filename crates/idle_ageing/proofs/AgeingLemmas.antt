-- Counts, and the tasks that have reached their delays.
use Rattle.std.proofs.Common.{◌≡◌, ℕ, Bool, true, false, ◌+◌, ◌<◌, ◌≤◌, inl, inr, List, [], ◌∷◌, ◌++◌, length, get_or, set, take, filter, cond, min, nat_le, refl, sym, ap, ◌∙◌, arith, subst, zero, suc, slice_get, Option, Some, None}
use Rattle.std.specs.Option.{option_map, option_map_or}
use Rattle.std.proofs.lemmas.List.{append_assoc, length-append, get_or_past, take_more, get_or-set_same, get_or-set_other, length-set}
use Rattle.std.proofs.lemmas.List.FromFn.{length-map-range_with_len, get_or-map-range_with_len}
use Rattle.std.proofs.lemmas.List.Elements.{filter-append, filter_agree}
use Rattle.std.proofs.lemmas.Bool.{cases_lt, cases_eq, cases_Bool, le-leb, lt-leb, false≢true, false_from_ne_true}
use Rattle.std.proofs.lemmas.Option.{get_or_from_slice_get, slice_get_within}
use Rattle.link_list.specs.KeyLists.{list_at, list_with, has, IsOnceEach}
use Rattle.link_list.proofs.Members.{has_head, has_at_head, has_in_rest, has_push_new, has_push_other, has_append, IsOnce-append}
use Rattle.link_list.proofs.Places.{has_at_place}
use Rattle.link_list.proofs.Walks.{length_le_cap}
use Rattle.std.proofs.lemmas.Option.{same_Some, none-some}
use Rattle.priority_bands.specs.Banded.{AreBands}
use Rattle.idle_ageing.specs.Ageing.{Ageing, one_more, counted, count_of, delay_of, has_reached, is_due, aged}

-- only a task that has a count has reached its delay
pub reached_in : (ages : Ageing) (task : ℕ) → has_reached ages task ≡ true → task < length ages.counts
reached_in ages task h = elim (cases_lt task (length ages.counts)) [
  | inl lt ↦ lt
  | inr past ↦ absurd (false≢true (sym (ap (λ c. option_map_or (nat_le (delay_of ages task)) c false) (get_or_past ages.counts task None past)) ∙ h))
]

-- a delay is reached by a count with one tick more where it is at most one tick away
reached_by_one : (delay count : ℕ) → nat_le delay (one_more delay count) ≡ nat_le delay (count + 1)
reached_by_one delay count = elim (cases_lt (count + 1) delay) [
  | inl lt ↦ lt-leb delay (min (count + 1) delay) (omega arith) ∙ sym (lt-leb delay (count + 1) lt)
  | inr past ↦ le-leb delay (min (count + 1) delay) (omega arith) ∙ sym (le-leb delay (count + 1) past)
]

reached_by_option : (delay : ℕ) (count : Option ℕ) → option_map_or (nat_le delay) (option_map (one_more delay) count) false ≡ option_map_or (λ n. nat_le delay (n + 1)) count false
reached_by_option delay None = refl
reached_by_option delay (Some n) = reached_by_one delay n

pub reached_counted : (ages : Ageing) (task : ℕ) → has_reached (counted ages) task ≡ is_due ages task
reached_counted ages task = elim (cases_lt task (length ages.counts)) [
  | inl lt ↦ ap (λ c. option_map_or (nat_le (delay_of ages task)) c false) (get_or-map-range_with_len (λ t. option_map (one_more (delay_of ages t)) (count_of ages t)) 0 (length ages.counts) task task None lt (omega arith)) ∙ reached_by_option (delay_of ages task) (count_of ages task)
  | inr past ↦
      ap (λ c. option_map_or (nat_le (delay_of ages task)) c false) (get_or_past (counted ages).counts task None (subst (λ n. n ≤ task) (sym (length-map-range_with_len (λ t. option_map (one_more (delay_of ages t)) (count_of ages t)) 0 (length ages.counts))) past))
      ∙ sym (ap (λ c. option_map_or (λ n. nat_le (delay_of ages task) (n + 1)) c false) (get_or_past ages.counts task None past))
]

-- the two bands' tasks that have reached their delays by the tick
pub aged_lines : (ages : Ageing) (bands : List (List ℕ)) → filter (has_reached (counted ages)) (list_at bands 1) ++ filter (has_reached (counted ages)) (list_at bands 2) ≡ aged ages bands
aged_lines ages bands = sym (filter-append (has_reached (counted ages)) (list_at bands 1) (list_at bands 2)) ∙ filter_agree (has_reached (counted ages)) (is_due ages) (reached_counted ages) (list_at bands 1 ++ list_at bands 2)

-- what a filter keeps passes
pub has_filter : (p : ℕ → Bool) (task : ℕ) (xs : List ℕ) → has task (filter p xs) ≡ true → p task ≡ true
has_filter p task [] h = absurd (false≢true h)
has_filter p task (x ∷ xs) h = elim (cases_Bool (p x)) [
  | inl e ↦ elim (has_head task x (filter p xs) (sym (rw e refl) ∙ h)) [
    | inl s ↦ ap p s ∙ e
    | inr s ↦ has_filter p task xs s
  ]
  | inr e ↦ has_filter p task xs (sym (rw e refl) ∙ h)
]

-- the bands 1 and 2 have at most 64 tasks together
pub length-two_bands : (bands : List (List ℕ)) → AreBands bands → length (list_at bands 1 ++ list_at bands 2) ≤ 64
length-two_bands bands are = length_le_cap 64 (list_at bands 1 ++ list_at bands 2)
    (IsOnce-append (list_at bands 1) (list_at bands 2) (are.once.within 1 (omega (arith, are.count))) (are.once.within 2 (omega (arith, are.count))) (λ x here. false_from_ne_true _ (λ there.
    let same : 1 ≡ 2 = same_Some 1 2 (sym (are.once.between 1 x (omega (arith, are.count)) here) ∙ are.once.between 2 x (omega (arith, are.count)) there) in
    omega arith)))
    (λ x m. elim (has_append x (list_at bands 1) (list_at bands 2) m) [ inl e ↦ are.below 1 x e | inr e ↦ are.below 2 x e ])

-- a task of a band stands there
pub list_with_band : (bands : List (List ℕ)) (once : IsOnceEach bands) (task band : ℕ) → band < length bands → has task (list_at bands band) ≡ true → list_with task bands ≡ list_at bands band
list_with_band bands once task band lt m = ap (list_at bands) (has_at_place task band bands (once.between band task lt m)).1

-- one more task of a line counts no more
pub stop_more : (tasks : List ℕ) (i task : ℕ) (old now : List (Option ℕ)) → slice_get tasks i ≡ Some task → task < length now → ((k : ℕ) → k < length now → get_or now k None ≡ cond (has k (take i tasks)) None (get_or old k None)) → (k : ℕ) → k < length (set now task None) → get_or (set now task None) k None ≡ cond (has k (take (i + 1) tasks)) None (get_or old k None)
stop_more tasks i task old now at lt h k kl =
    let more : take (i + 1) tasks ≡ take i tasks ++ task ∷ [] = take_more tasks i 0 (slice_get_within tasks i task at) ∙ ap (λ t. take i tasks ++ t ∷ []) (get_or_from_slice_get tasks i task 0 at) in
    elim (cases_eq k task) [
      | inl e ↦ ap (λ j. get_or (set now task None) j None) e ∙ get_or-set_same now task None None lt ∙ sym (ap (λ b. cond b None (get_or old k None)) (ap (has k) more ∙ ap (λ j. has j (take i tasks ++ task ∷ [])) e ∙ has_push_new task (take i tasks)))
      | inr e ↦
          get_or-set_other now task k None None e
          ∙ h k (subst (λ n. k < n) (length-set now task None) kl)
          ∙ ap (λ b. cond b None (get_or old k None)) (sym (ap (has k) more ∙ has_push_other k task (take i tasks) e))
    ]

pub has_slice_get : (task i : ℕ) (xs : List ℕ) → slice_get xs i ≡ Some task → has task xs ≡ true
has_slice_get task i [] h = absurd (none-some task h)
has_slice_get task zero (x ∷ xs) h = has_at_head task x xs (sym (same_Some x task h))
has_slice_get task (suc i) (x ∷ xs) h = has_in_rest task x xs (has_slice_get task i xs h)

pub length-filter_le : (p : ℕ → Bool) (xs : List ℕ) → length (filter p xs) ≤ length xs
length-filter_le p [] = omega arith
length-filter_le p (x ∷ xs) = elim (cases_Bool (p x)) [
  | inl e ↦ let l = length-filter_le p xs in rw e (omega arith)
  | inr e ↦ let l = length-filter_le p xs in rw e (omega arith)
]

-- one key of a list goes into the line, or doesn't
pub filter_step : (p : ℕ → Bool) (line : List ℕ) (task : ℕ) (rest : List ℕ) → cond (p task) (line ++ task ∷ []) line ++ filter p rest ≡ line ++ filter p (task ∷ rest)
filter_step p line task rest = elim (cases_Bool (p task)) [
  | inl e ↦ rw e (append_assoc line (task ∷ []) (filter p rest))
  | inr e ↦ rw e refl
]

pub length_step : (b : Bool) (line : List ℕ) (task : ℕ) → length (cond b (line ++ task ∷ []) line) ≤ length line + 1
length_step true line task = omega (arith, length-append line (task ∷ []))
length_step false line task = omega arith

-- a line to which the tasks of both bands were appended
pub two_lines : (ages : Ageing) (bands : List (List ℕ)) (none one two : List ℕ) → none ≡ [] → one ≡ none ++ filter (has_reached ages) (list_at bands 1) → two ≡ one ++ filter (has_reached ages) (list_at bands 2) → two ≡ filter (has_reached ages) (list_at bands 1) ++ filter (has_reached ages) (list_at bands 2)
two_lines ages bands none one two e f g = g ∙ ap (λ xs. xs ++ filter (has_reached ages) (list_at bands 2)) (f ∙ ap (λ xs. xs ++ filter (has_reached ages) (list_at bands 1)) e)
