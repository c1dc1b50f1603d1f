-- The table of who maps an object, one entry more.
use Rattle.std.proofs.Common.{◌≡◌, ℕ, ◌+◌, ◌<◌, List, [], ◌∷◌, length, find, get_or, cond, Bool, true, false, ◌&&◌, ◌||◌, not, Option, Some, None, option_map, is_some, refl, sym, ap, ap₂, ◌∙◌}
use Rattle.std.specs.List.{list_any, range_with_len}
use Rattle.std.specs.Option.{unwrap_or}
use Rattle.std.proofs.lemmas.Bool.{or_parts}
use Rattle.kern_ids.specs.declared.entries.Entry.{Entry}
use Rattle.kernel_model.specs.System.{System}
use Rattle.kernel_model.specs.Events.{accepted, is_map, is_attach, is_unmap, is_exit_call, is_by, killed_by}
use Rattle.kernel_model.specs.Mapping.{live, said_maps, maps, mapped, owner, tasks_of, next_live, next_said}
use Rattle.slow_kernel.specs.declared.mapping.Mapper.{Mapper}
use Rattle.slow_kernel.specs.Tables.{mapper, mappers, is_mapping, past_at, unmapped_at, tells_mapping}
use Rattle.kernel_model.proofs.Laws.Mapping.{live-more, said_maps-more, mapped-is, owner-is}
use Rattle.slow_kernel.proofs.Loops.{live_loop, said_loop, live_none, said_none, past_loop}
use Rattle.slow_kernel.proofs.Maps.{list_any_map, find_map}
use Rattle.slow_kernel.proofs.Tables.{map_same}

pub mapper_none : (boot : System) (o t : ℕ) → mapper boot [] o t ≡ record { task = t; live = true; said = false }
mapper_none boot o t = ap₂ (λ (a b : Bool). record { task = t; live = a; said = b }) (live_none boot t) (said_none boot o t)

pub mapper_loop : (boot : System) (h : List Entry) (i : ℕ) (e : Entry) (o t : ℕ) → i < length h → e ≡ get_or h i e → mapper boot (past_at h (i + 1)) o t ≡ record { task = t; live = next_live boot t (live boot (past_at h i) t) e; said = next_said boot o t (said_maps boot (past_at h i) o t) e }
mapper_loop boot h i e o t l r = ap₂ (λ (a b : Bool). record { task = t; live = a; said = b }) (live_loop boot h i e t l r) (said_loop boot h i e o t l r)

pub mapped_in : (boot : System) (past : List Entry) (o : ℕ) → mapped boot past o ≡ list_any is_mapping (mappers boot past o)
unfolding maps
mapped_in boot past o = mapped-is boot past o ∙ sym (list_any_map is_mapping (mapper boot past o) (tasks_of boot))

same_option : (o : Option ℕ) (f : ℕ → Mapper) → ((t : ℕ) → (f t).task ≡ t) → o ≡ option_map (λ m. m.task) (option_map f o)
same_option None f h = refl
same_option (Some t) f h = ap Some (sym (h t))

pub owner_from : (boot : System) (past : List Entry) (o : ℕ) → owner boot past o ≡ option_map (λ m. m.task) (find is_mapping (mappers boot past o))
unfolding maps
owner_from boot past o =
    owner-is boot past o
    ∙ same_option (find (maps boot past o) (tasks_of boot)) (mapper boot past o) (λ t. refl)
    ∙ sym (ap (option_map (λ m. m.task)) (find_map is_mapping (mapper boot past o) (tasks_of boot)))

no_end : (boot : System) (t : ℕ) (exits : Bool) (k : Option ℕ) (by : Bool) → exits ≡ false → is_some k ≡ false → ((exits && by) || Rattle.std.specs.Option.option_map_or (Rattle.std.specs.Prelude.nat_eq t) k false) ≡ false
no_end boot t exits None by x y = rw x refl
no_end boot t exits (Some u) by x y = cc

-- the parts of an entry that tells nothing of who maps o
record IsQuiet (o : ℕ) (e : Entry) : Type 0 where
  map : is_map o e ≡ false
  attach : is_attach o e ≡ false
  unmap : is_unmap o e ≡ false
  exit : (accepted e && is_exit_call e.call) ≡ false
  killed : is_some (killed_by e.reply) ≡ false

is-quiet : (o : ℕ) (e : Entry) → tells_mapping o e ≡ false → IsQuiet o e
unfolding tells_mapping
is-quiet o e q =
    let k = or_parts (is_map o e || is_attach o e || is_unmap o e || (accepted e && is_exit_call e.call)) (is_some (killed_by e.reply)) q in
    let x = or_parts (is_map o e || is_attach o e || is_unmap o e) (accepted e && is_exit_call e.call) k.0 in
    let u = or_parts (is_map o e || is_attach o e) (is_unmap o e) x.0 in
    let m = or_parts (is_map o e) (is_attach o e) u.0 in
    record { map = m.0; attach = m.1; unmap = u.1; exit = x.1; killed = k.1 }

quiet-live : (boot : System) (e : Entry) (before : List Entry) (o t : ℕ) → IsQuiet o e → live boot (e ∷ before) t ≡ live boot before t
unfolding next_live
quiet-live boot e before o t q =
    live-more boot e before t ∙ ap (λ b. not b && live boot before t) (no_end boot t (accepted e && is_exit_call e.call) (killed_by e.reply) (is_by boot t e) q.exit q.killed)

said-still : (b was : Bool) → unwrap_or (cond ((false || false) && b) (Some true) (cond (false && b) (Some false) None)) was ≡ was
said-still b was = refl

quiet-said : (boot : System) (e : Entry) (before : List Entry) (o t : ℕ) → IsQuiet o e → said_maps boot (e ∷ before) o t ≡ said_maps boot before o t
unfolding next_said
quiet-said boot e before o t q =
    said_maps-more boot e before o t ∙ rw (q.map, q.attach, q.unmap) refl

-- an entry that tells nothing of who maps o leaves the table
pub mappers_quiet : (boot : System) (h : List Entry) (i : ℕ) (e : Entry) (o : ℕ) → i < length h → e ≡ get_or h i e → tells_mapping o e ≡ false → mappers boot (past_at h (i + 1)) o ≡ mappers boot (past_at h i) o
mappers_quiet boot h i e o l r q =
    ap (λ past. mappers boot past o) (past_loop h i e l r)
    ∙ map_same (mapper boot (e ∷ past_at h i) o) (mapper boot (past_at h i) o)
    (λ t. ap₂ (λ (a b : Bool). record { task = t; live = a; said = b }) (quiet-live boot e (past_at h i) o t (is-quiet o e q)) (quiet-said boot e (past_at h i) o t (is-quiet o e q)))
    (tasks_of boot)

and-not : (b : Bool) → (b && not b) ≡ false
and-not true = refl
and-not false = refl

pub unmapped_quiet : (boot : System) (h : List Entry) (i : ℕ) (o : ℕ) → mappers boot (past_at h (i + 1)) o ≡ mappers boot (past_at h i) o → unmapped_at boot h i o ≡ false
unfolding unmapped_at
unmapped_quiet boot h i o same =
    let e : mapped boot (past_at h (i + 1)) o ≡ mapped boot (past_at h i) o = mapped_in boot (past_at h (i + 1)) o ∙ ap (list_any is_mapping) same ∙ sym (mapped_in boot (past_at h i) o) in
    ap (λ b. mapped boot (past_at h i) o && not b) e ∙ and-not (mapped boot (past_at h i) o)

pub unmapped_from : (boot : System) (h : List Entry) (i : ℕ) (o : ℕ) → unmapped_at boot h i o ≡ (list_any is_mapping (mappers boot (past_at h i) o) && not (list_any is_mapping (mappers boot (past_at h (i + 1)) o)))
unfolding unmapped_at
unmapped_from boot h i o = ap₂ (λ a b. a && not b) (mapped_in boot (past_at h i) o) (mapped_in boot (past_at h (i + 1)) o)

pub unmapped_still : (boot : System) (h : List Entry) (i : ℕ) (e : Entry) (o : ℕ) → i < length h → e ≡ get_or h i e → tells_mapping o e ≡ false → unmapped_at boot h i o ≡ false
unmapped_still boot h i e o l r q = unmapped_quiet boot h i o (mappers_quiet boot h i e o l r q)
