-- The JSON value of what stands after a history: its lists one item at a time, and that it has no float.
use Rattle.std.proofs.Common.{◌≡◌, ℕ, ◌+◌, ◌<◌, take, get_or, length, map, List, [], ◌∷◌, ◌++◌, false, None, Some, refl, sym, ap, ◌∙◌}
use Rattle.std.proofs.lemmas.List.{take_more, map-append}
use Rattle.serde_json.specs.Data.{Data}
use Rattle.serde_json.specs.View.{view, items_of}
use Rattle.serde_json.specs.Written.{has_float, items_have_float}
use Rattle.serde_json.specs.declared.value.Value.{Value}
use Rattle.report_tables.specs.Facts.{Report}
use Rattle.report_tables.specs.Json.{life_data, task_data, held_data, object_data, frames_data, tokens_data, facts_data}
use Rattle.report_tables.specs.declared.rows.TaskFacts.{TaskFacts}
use Rattle.report_tables.specs.declared.rows.ObjectFacts.{ObjectFacts}

-- one item more
values-more : {A : Type 0} (data_of : A → Data) (vs : List Value) (v : Value) (xs : List A) (i : ℕ) (x : A) → i < length xs → x ≡ get_or xs i x → map view vs ≡ map data_of (take i xs) → view v ≡ data_of x → map view (vs ++ v ∷ []) ≡ map data_of (take (i + 1) xs)
values-more data_of vs v xs i x l r before here =
    let more : take (i + 1) xs ≡ take i xs ++ x ∷ [] = take_more xs i x l ∙ ap (λ y. take i xs ++ y ∷ []) (sym r) in
    map-append view vs (v ∷ [])
    ∙ ap (λ (ds : List Data). ds ++ view v ∷ []) before
    ∙ ap (λ (d : Data). map data_of (take i xs) ++ d ∷ []) here
    ∙ sym (ap (map data_of) more ∙ map-append data_of (take i xs) (x ∷ []))

pub task_values_more : (vs : List Value) (v : Value) (xs : List TaskFacts) (i : ℕ) (x : TaskFacts) → i < length xs → x ≡ get_or xs i x → map view vs ≡ map task_data (take i xs) → view v ≡ task_data x → map view (vs ++ v ∷ []) ≡ map task_data (take (i + 1) xs)
task_values_more vs v xs i x l r before here = values-more task_data vs v xs i x l r before here

pub object_values_more : (vs : List Value) (v : Value) (xs : List ObjectFacts) (i : ℕ) (x : ObjectFacts) → i < length xs → x ≡ get_or xs i x → map view vs ≡ map object_data (take i xs) → view v ≡ object_data x → map view (vs ++ v ∷ []) ≡ map object_data (take (i + 1) xs)
object_values_more vs v xs i x l r before here = values-more object_data vs v xs i x l r before here

-- no float in a list of such values
items-have-float : {A : Type 0} (data_of : A → Data) → ((x : A) → has_float (data_of x) ≡ false) → (xs : List A) → items_have_float (items_of (map data_of xs)) ≡ false
items-have-float data_of h [] = refl
items-have-float data_of h (x ∷ xs) = rw (h x) (items-have-float data_of h xs)

has_float-task_data : (t : TaskFacts) → has_float (task_data t) ≡ false
unfolding task_data
has_float-task_data t = elim t.life as (λ life. has_float (life_data life) ≡ false) [ None ↦ refl | Some l ↦ refl ]

has_float-object_data : (o : ObjectFacts) → has_float (object_data o) ≡ false
unfolding object_data
has_float-object_data o = elim o.held as (λ held. has_float (held_data held) ≡ false) [ None ↦ refl | Some m ↦ refl ]

pub has_float-facts_data : (f : Report) → has_float (facts_data f) ≡ false
unfolding facts_data frames_data tokens_data
has_float-facts_data f = rw (items-have-float object_data has_float-object_data f.objects, items-have-float task_data has_float-task_data f.tasks) refl
