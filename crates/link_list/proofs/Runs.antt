-- Links that run through a list of keys, and what a change of links leaves.
use Rattle.std.proofs.Common.{◌≡◌, ℕ, true, false, ◌<◌, ◌≤◌, inl, inr, List, [], ◌∷◌, ◌++◌, length, get_or, set, refl, sym, ap, ◌∙◌, arith, subst, cond, nat_lt, Some, None, slice_get}
use Rattle.std.proofs.lemmas.List.{get_or-set_same, get_or-set_other, length-set}
use Rattle.std.proofs.lemmas.Bool.{cases_eq, lt-ltb, le-ltb, eq-eqb, ne_eqb, false≢true}
use Rattle.link_list.specs.KeyLists.{has, without, IsOnce, after}
use Rattle.link_list.specs.Linked.{Runs}
use Rattle.link_list.proofs.Members.{apart_head, has_head, has_at_head, has_in_rest, other_in_rest, apart_from_has, without_absent, without_head, without_other}

-- a change of the links of two numbers p and n that aren't of the ring leaves the ring
pub Runs-set : (next prev : List ℕ) (p v n w a : ℕ) (xs : List ℕ) (z : ℕ) → Runs next prev a xs z → (a ≡ p → ⊥) → has p xs ≡ false → has n xs ≡ false → (z ≡ n → ⊥) → Runs (set next p v) (set prev n w) a xs z
Runs-set next prev p v n w a [] z r ap_ hp hn zn = (get_or-set_other next p a v 0 ap_ ∙ r.0, get_or-set_other prev n z w 0 zn ∙ r.1)
Runs-set next prev p v n w a (x ∷ xs) z r ap_ hp hn zn =
    let p' = apart_head p x xs hp in
    let n' = apart_head n x xs hn in (
      get_or-set_other next p a v 0 ap_ ∙ r.0,
      get_or-set_other prev n x w 0 (λ e. n'.0 (sym e)) ∙ r.1,
      Runs-set next prev p v n w x xs z r.2 (λ e. p'.0 (sym e)) p'.1 n'.1 zn,
    )

-- what holds of the first number and of all keys holds of the number before a key
pub before_key : (P : ℕ → Type 0) (next prev : List ℕ) (a : ℕ) (xs : List ℕ) (z key : ℕ) → Runs next prev a xs z → has key xs ≡ true → P a → ((x : ℕ) → has x xs ≡ true → P x) → P (get_or prev key 0)
before_key P next prev a [] z key r h pa pxs = absurd (grind arith)
before_key P next prev a (x ∷ xs) z key r h pa pxs = elim (has_head key x xs h) [
  | inl e ↦ subst P (sym (ap (λ i. get_or prev i 0) e ∙ r.1)) pa
  | inr e ↦ before_key P next prev x xs z key r.2 e (pxs x (has_at_head x x xs refl)) (λ y m. pxs y (has_in_rest y x xs m))
]

-- what holds of all keys and of the last number holds of the first link
pub first_link : (P : ℕ → Type 0) (next prev : List ℕ) (a : ℕ) (xs : List ℕ) (z : ℕ) → Runs next prev a xs z → ((x : ℕ) → has x xs ≡ true → P x) → P z → P (get_or next a 0)
first_link P next prev a [] z r pxs pz = subst P (sym r.0) pz
first_link P next prev a (x ∷ xs) z r pxs pz = subst P (sym r.0) (pxs x (has_at_head x x xs refl))

-- the same of the number behind a key
pub behind_key : (P : ℕ → Type 0) (next prev : List ℕ) (a : ℕ) (xs : List ℕ) (z key : ℕ) → Runs next prev a xs z → has key xs ≡ true → ((x : ℕ) → has x xs ≡ true → P x) → P z → P (get_or next key 0)
behind_key P next prev a [] z key r h pxs pz = absurd (grind arith)
behind_key P next prev a (x ∷ xs) z key r h pxs pz = elim (has_head key x xs h) [
  | inl e ↦ subst (λ i. P (get_or next i 0)) (sym e) (first_link P next prev x xs z r.2 (λ y m. pxs y (has_in_rest y x xs m)) pz)
  | inr e ↦ behind_key P next prev x xs z key r.2 e (λ y m. pxs y (has_in_rest y x xs m)) pz
]

-- what holds of the first number and of all keys holds of the last number's link back
pub last_link : (P : ℕ → Type 0) (next prev : List ℕ) (a : ℕ) (xs : List ℕ) (z : ℕ) → Runs next prev a xs z → P a → ((x : ℕ) → has x xs ≡ true → P x) → P (get_or prev z 0)
last_link P next prev a [] z r pa pxs = subst P (sym r.1) pa
last_link P next prev a (x ∷ xs) z r pa pxs = last_link P next prev x xs z r.2 (pxs x (has_at_head x x xs refl)) (λ y m. pxs y (has_in_rest y x xs m))

-- a key is put between the last number and the end
pub Runs-push_back : (next prev : List ℕ) (key a : ℕ) (xs : List ℕ) (z : ℕ) → Runs next prev a xs z → IsOnce xs → (a ≡ key → ⊥) → (z ≡ key → ⊥) → has key xs ≡ false → has a xs ≡ false → has z xs ≡ false → key < length next → get_or prev z 0 < length next → key < length prev → z < length prev → Runs (set (set next (get_or prev z 0) key) key z) (set (set prev key (get_or prev z 0)) z key) a (xs ++ key ∷ []) z
Runs-push_back next prev key a [] z r o ak zk hk ha hz kn ln kp zp =
    let last = get_or prev z 0 in
    let kn' : key < length (set next last key) = rw (length-set next last key) kn in
    let zp' : z < length (set prev key last) = rw (length-set prev key last) zp in
    let kept : get_or (set next last key) a 0 ≡ key = ap (λ i. get_or (set next last key) i 0) (sym r.1) ∙ get_or-set_same next last key 0 ln in (
      get_or-set_other (set next last key) key a z 0 ak ∙ kept,
      get_or-set_other (set prev key last) z key key 0 (λ e. zk (sym e)) ∙ get_or-set_same prev key last 0 kp ∙ r.1,
      (get_or-set_same (set next last key) key z 0 kn', get_or-set_same (set prev key last) z key 0 zp'),
    )
Runs-push_back next prev key a (x ∷ xs) z r o ak zk hk ha hz kn ln kp zp =
    let last = get_or prev z 0 in
    let k' = apart_head key x xs hk in
    let a' = apart_head a x xs ha in
    let z' = apart_head z x xs hz in
    let al : a ≡ last → ⊥ = λ e. last_link (λ i. a ≡ i → ⊥) next prev x xs z r.2 a'.0 (λ y m e'. apart_from_has y a xs m a'.1 (sym e')) e in (
      get_or-set_other (set next last key) key a z 0 ak ∙ get_or-set_other next last a key 0 al ∙ r.0,
      get_or-set_other (set prev key last) z x key 0 (λ e. z'.0 (sym e)) ∙ get_or-set_other prev key x last 0 (λ e. k'.0 (sym e)) ∙ r.1,
      Runs-push_back next prev key x xs z r.2 o.1 (λ e. k'.0 (sym e)) zk k'.1 o.0 z'.1 kn ln kp zp,
    )

-- a key is put between the first number and the rest
pub Runs-push_front : (next prev : List ℕ) (key a : ℕ) (xs : List ℕ) (z : ℕ) → Runs next prev a xs z → IsOnce xs → (a ≡ key → ⊥) → (z ≡ key → ⊥) → has key xs ≡ false → has a xs ≡ false → has z xs ≡ false → a < length next → key < length next → key < length prev → get_or next a 0 < length prev → Runs (set (set next a key) key (get_or next a 0)) (set (set prev key a) (get_or next a 0) key) a (key ∷ xs) z
Runs-push_front next prev key a [] z r o ak zk hk ha hz an kn kp fp =
    let first = get_or next a 0 in
    let kn' : key < length (set next a key) = rw (length-set next a key) kn in
    let fp' : first < length (set prev key a) = rw (length-set prev key a) fp in (
      get_or-set_other (set next a key) key a first 0 ak ∙ get_or-set_same next a key 0 an,
      get_or-set_other (set prev key a) first key key 0 (λ e. zk (sym (e ∙ r.0))) ∙ get_or-set_same prev key a 0 kp,
      (
        get_or-set_same (set next a key) key first 0 kn' ∙ r.0,
        ap (λ i. get_or (set (set prev key a) first key) i 0) (sym r.0) ∙ get_or-set_same (set prev key a) first key 0 fp',
      ),
    )
Runs-push_front next prev key a (x ∷ xs) z r o ak zk hk ha hz an kn kp fp =
    let first = get_or next a 0 in
    let k' = apart_head key x xs hk in
    let a' = apart_head a x xs ha in
    let z' = apart_head z x xs hz in
    let kn' : key < length (set next a key) = rw (length-set next a key) kn in
    let fp' : first < length (set prev key a) = rw (length-set prev key a) fp in
    let once : Runs (set next a key) (set prev key a) x xs z = Runs-set next prev a key key a x xs z r.2 (λ e. a'.0 (sym e)) a'.1 k'.1 zk in (
      get_or-set_other (set next a key) key a first 0 ak ∙ get_or-set_same next a key 0 an,
      get_or-set_other (set prev key a) first key key 0 (λ e. k'.0 (e ∙ r.0)) ∙ get_or-set_same prev key a 0 kp,
      (
        get_or-set_same (set next a key) key first 0 kn' ∙ r.0,
        ap (λ i. get_or (set (set prev key a) first key) i 0) (sym r.0) ∙ get_or-set_same (set prev key a) first key 0 fp',
        Runs-set (set next a key) (set prev key a) key first first key x xs z once (λ e. k'.0 (sym e)) k'.1 (ap (λ i. has i xs) r.0 ∙ o.0) (λ e. z'.0 (e ∙ r.0)),
      ),
    )

-- the number before a key is linked to what comes behind the key
Runs-joined : (next prev : List ℕ) (key a : ℕ) (xs : List ℕ) (z : ℕ) → Runs next prev key xs z → get_or prev key 0 ≡ a → IsOnce xs → has a xs ≡ false → has z xs ≡ false → get_or prev key 0 < length next → get_or next key 0 < length prev → Runs (set next (get_or prev key 0) (get_or next key 0)) (set prev (get_or next key 0) (get_or prev key 0)) a xs z
Runs-joined next prev key a [] z r pa o ha hz pn np = (
  ap (λ i. get_or (set next (get_or prev key 0) (get_or next key 0)) i 0) (sym pa) ∙ get_or-set_same next (get_or prev key 0) (get_or next key 0) 0 pn ∙ r.0,
  ap (λ i. get_or (set prev (get_or next key 0) (get_or prev key 0)) i 0) (sym r.0) ∙ get_or-set_same prev (get_or next key 0) (get_or prev key 0) 0 np ∙ pa,
)
Runs-joined next prev key a (x ∷ xs) z r pa o ha hz pn np =
    let a' = apart_head a x xs ha in
    let z' = apart_head z x xs hz in (
      ap (λ i. get_or (set next (get_or prev key 0) (get_or next key 0)) i 0) (sym pa) ∙ get_or-set_same next (get_or prev key 0) (get_or next key 0) 0 pn ∙ r.0,
      ap (λ i. get_or (set prev (get_or next key 0) (get_or prev key 0)) i 0) (sym r.0) ∙ get_or-set_same prev (get_or next key 0) (get_or prev key 0) 0 np ∙ pa,
      Runs-set next prev (get_or prev key 0) (get_or next key 0) (get_or next key 0) (get_or prev key 0) x xs z r.2 (λ e. a'.0 (sym (e ∙ pa))) (ap (λ i. has i xs) pa ∙ a'.1) (ap (λ i. has i xs) r.0 ∙ o.0) (λ e. z'.0 (e ∙ r.0)),
    )

-- a key is taken out: the numbers before and behind it are linked
pub Runs-remove : (next prev : List ℕ) (key a : ℕ) (xs : List ℕ) (z : ℕ) → Runs next prev a xs z → IsOnce xs → has key xs ≡ true → has a xs ≡ false → has z xs ≡ false → get_or prev key 0 < length next → get_or next key 0 < length prev → Runs (set next (get_or prev key 0) (get_or next key 0)) (set prev (get_or next key 0) (get_or prev key 0)) a (without key xs) z
Runs-remove next prev key a [] z r o hk ha hz pn np = absurd (grind arith)
Runs-remove next prev key a (x ∷ xs) z r o hk ha hz pn np =
    let a' = apart_head a x xs ha in
    let z' = apart_head z x xs hz in
    elim (cases_eq key x) [
      | inl e ↦
          subst (λ ys. Runs (set next (get_or prev key 0) (get_or next key 0)) (set prev (get_or next key 0) (get_or prev key 0)) a ys z) (sym (without_head key x xs e ∙ without_absent key xs (ap (λ i. has i xs) e ∙ o.0)))
          (Runs-joined next prev key a xs z (subst (λ i. Runs next prev i xs z) (sym e) r.2) (ap (λ i. get_or prev i 0) e ∙ r.1) o.1 a'.1 z'.1 pn np)
      | inr e ↦
          let here = other_in_rest key x xs hk e in
          let ap_ : a ≡ get_or prev key 0 → ⊥ = before_key (λ i. a ≡ i → ⊥) next prev x xs z key r.2 here a'.0 (λ y m e'. apart_from_has y a xs m a'.1 (sym e')) in
          let xn : x ≡ get_or next key 0 → ⊥ = behind_key (λ i. x ≡ i → ⊥) next prev x xs z key r.2 here (λ y m e'. apart_from_has y x xs m o.0 (sym e')) (λ e'. z'.0 (sym e')) in
          subst (λ ys. Runs (set next (get_or prev key 0) (get_or next key 0)) (set prev (get_or next key 0) (get_or prev key 0)) a ys z) (sym (without_other key x xs e)) (
            get_or-set_other next (get_or prev key 0) a (get_or next key 0) 0 ap_ ∙ r.0,
            get_or-set_other prev (get_or next key 0) x (get_or prev key 0) 0 xn ∙ r.1,
            Runs-remove next prev key x xs z r.2 o.1 here o.0 z'.1 pn np,
          )
    ]

-- the first key by the first link: a link to a number below `cap` is to a key
pub head_by_link : (next prev : List ℕ) (cap a : ℕ) (xs : List ℕ) (z : ℕ) → Runs next prev a xs z → ((x : ℕ) → has x xs ≡ true → x < cap) → cap ≤ z → slice_get xs 0 ≡ cond (nat_lt (get_or next a 0) cap) (Some (get_or next a 0)) None
head_by_link next prev cap a [] z r b cz = rw (r.0, le-ltb z cap cz) refl
head_by_link next prev cap a (x ∷ xs) z r b cz = rw (r.0, lt-ltb x cap (b x (has_at_head x x xs refl))) refl

-- the same of the key after a key
pub after_by_link : (next prev : List ℕ) (cap a : ℕ) (xs : List ℕ) (z key : ℕ) → Runs next prev a xs z → has key xs ≡ true → ((x : ℕ) → has x xs ≡ true → x < cap) → cap ≤ z → after key xs ≡ cond (nat_lt (get_or next key 0) cap) (Some (get_or next key 0)) None
after_by_link next prev cap a [] z key r h b cz = absurd (false≢true h)
after_by_link next prev cap a (x ∷ xs) z key r h b cz = elim (cases_eq key x) [
  | inl e ↦ rw (eq-eqb key x e, e) (head_by_link next prev cap x xs z r.2 (λ y m. b y (has_in_rest y x xs m)) cz)
  | inr e ↦ rw (ne_eqb key x e) (after_by_link next prev cap x xs z key r.2 (other_in_rest key x xs h e) (λ y m. b y (has_in_rest y x xs m)) cz)
]
