-- Lists that keep exactly the elements with a test in rising order: their first is the least, and what an entry makes of them.
use Rattle.std.proofs.Common.{◌≡◌, List, [], ◌∷◌, ◌++◌, Some, None, refl, sym, ap, ap₂, ◌∙◌, subst, Bool, true, false, not, ◌&&◌, ◌||◌, find, filter, inl, inr, ◌⊎◌}
use Rattle.std.specs.Prelude.{slice_get}
use Rattle.std.specs.List.{list_any}
use Rattle.std.proofs.lemmas.Bool.{false≢true, true≢false}
use Rattle.kernel_model.specs.Lists.{least, put, in_order}
use Rattle.kernel_model.specs.Laws.Order.{Has, Rising, Keeps, Distinct}

cases_bool : (b : Bool) → (b ≡ true) ⊎ (b ≡ false)
cases_bool true = inl refl
cases_bool false = inr refl

both_true : (a b : Bool) → (a && b) ≡ true → (a ≡ true) × (b ≡ true)
both_true true b h = (refl, h)
both_true false b h = absurd (false≢true h)

not_true : (b : Bool) → not b ≡ true → b ≡ false
not_true false h = refl
not_true true h = absurd (false≢true h)

or-true : (b : Bool) → (b || true) ≡ true
or-true true = refl
or-true false = refl

-- membership
pub has-append_left : {A : Type 0} (xs ys : List A) (x : A) → Has xs x → Has (xs ++ ys) x
has-append_left [] ys x h = absurd h
has-append_left (y ∷ xs) ys x (inl e) = inl e
has-append_left (y ∷ xs) ys x (inr h) = inr (has-append_left xs ys x h)

pub has-append_right : {A : Type 0} (xs ys : List A) (x : A) → Has ys x → Has (xs ++ ys) x
has-append_right [] ys x h = h
has-append_right (y ∷ xs) ys x h = inr (has-append_right xs ys x h)

pub has-append_cases : {A : Type 0} (xs ys : List A) (x : A) → Has (xs ++ ys) x → Has xs x ⊎ Has ys x
has-append_cases [] ys x h = inr h
has-append_cases (y ∷ xs) ys x (inl e) = inl (inl e)
has-append_cases (y ∷ xs) ys x (inr h) = elim (has-append_cases xs ys x h) [ inl l ↦ inl (inr l) | inr r ↦ inr r ]

pub has-filter : {A : Type 0} (p : A → Bool) (xs : List A) (x : A) → Has xs x → p x ≡ true → Has (filter p xs) x
has-filter p [] x h t = absurd h
has-filter p (y ∷ xs) x (inl e) t = let t' : p y ≡ true = ap p e ∙ t in rw t' (inl e)
has-filter p (y ∷ xs) x (inr h) t = elim (cases_bool (p y)) [
  | inl holds ↦ rw holds (inr (has-filter p xs x h t))
  | inr fails ↦ rw fails (has-filter p xs x h t)
]

pub filter-has : {A : Type 0} (p : A → Bool) (xs : List A) (x : A) → Has (filter p xs) x → Has xs x × (p x ≡ true)
filter-has p [] x h = absurd h
filter-has p (y ∷ xs) x h = elim (cases_bool (p y)) [
  | inl holds ↦ elim (rw holds at h) [
    | inl e ↦ (inl e, ap p (sym e) ∙ holds)
    | inr r ↦ (let q = filter-has p xs x r in (inr q.0, q.1))
  ]
  | inr fails ↦ (let q = filter-has p xs x (rw fails at h) in (inr q.0, q.1))
]

pub any-has : {A : Type 0} (p : A → Bool) (xs : List A) (x : A) → Has xs x → p x ≡ true → list_any p xs ≡ true
any-has p [] x h t = absurd h
any-has p (y ∷ xs) x (inl e) t = let t' : p y ≡ true = ap p e ∙ t in rw t' refl
any-has p (y ∷ xs) x (inr h) t = rw (any-has p xs x h t) (or-true (p y))

pub any-none : {A : Type 0} (p : A → Bool) (xs : List A) → ((x : A) → Has xs x → p x ≡ false) → list_any p xs ≡ false
any-none p [] h = refl
any-none p (y ∷ xs) h = rw (h y (inl refl), any-none p xs (λ x m. h x (inr m))) refl

other_has : {A : Type 0} (p : A → Bool) (y : A) (xs : List A) (x : A) → Has (y ∷ xs) x → p x ≡ true → p y ≡ false → Has xs x
other_has p y xs x (inl e) t f = absurd (true≢false (sym t ∙ ap p (sym e) ∙ f))
other_has p y xs x (inr h) t f = h

none_some : {A : Type 0} {x : A} → None ≡ Some x → ⊥
none_some h = cc

some_same : {A : Type 0} {x y : A} → Some x ≡ Some y → x ≡ y
some_same h = cc

-- the one element that passes is found
pub find-only : {A : Type 0} (p : A → Bool) (xs : List A) (x : A) → Has xs x → p x ≡ true → ((y : A) → Has xs y → p y ≡ true → y ≡ x) → find p xs ≡ Some x
find-only p [] x h t only = absurd h
find-only p (y ∷ xs) x h t only = elim (cases_bool (p y)) [
  | inl holds ↦ rw holds (ap Some (only y (inl refl) holds))
  | inr fails ↦ rw fails (find-only p xs x (other_has p y xs x h t fails) t (λ z m. only z (inr m)))
]

pub find-none : {A : Type 0} (p : A → Bool) (xs : List A) → ((x : A) → Has xs x → p x ≡ false) → find p xs ≡ None
find-none p [] h = refl
find-none p (y ∷ xs) h = rw (h y (inl refl), find-none p xs (λ x m. h x (inr m))) refl

-- what is found is there and passes
pub find-has : {A : Type 0} (p : A → Bool) (xs : List A) (x : A) → find p xs ≡ Some x → Has xs x × (p x ≡ true)
find-has p [] x h = absurd (none_some h)
find-has p (y ∷ xs) x h = elim (cases_bool (p y)) [
  | inl holds ↦ (let e : y ≡ x = some_same (rw holds at h) in (inl e, ap p (sym e) ∙ holds))
  | inr fails ↦ (let q = find-has p xs x (rw fails at h) in (inr q.0, q.1))
]

-- the least of those that pass is the first of the list that keeps them
pub least-keeps : {A : Type 0} (whole : List A) (test : A → Bool) (less : A → A → Bool) (xs : List A) → ((x y : A) → less x y ≡ true → less y x ≡ false) → Keeps whole test less xs → least less (filter test whole) ≡ slice_get xs 0
least-keeps {A} whole test less [] asym k = find-none _ (filter test whole) (λ x m. absurd (let q = filter-has test whole x m in k.all x q.0 q.1))
least-keeps {A} whole test less (x ∷ xs) asym k =
    let inside : (y : A) → Has (filter test whole) y → Has (x ∷ xs) y = λ y m. (let q = filter-has test whole y m in k.all y q.0 q.1) in
    let itself : less x x ≡ false = elim (cases_bool (less x x)) [ inl t ↦ asym x x t | inr f ↦ f ] in
    let none_less : (y : A) → Has (filter test whole) y → less y x ≡ false = λ y m. elim (inside y m) [ inl e ↦ ap (λ z. less z x) (sym e) ∙ itself | inr h ↦ asym x y (k.rising.0 y h) ] in
    let there : Has (filter test whole) x = has-filter test whole x (k.within x (inl refl)) (k.passes x (inl refl)) in
    find-only (λ z. not (list_any (λ y. less y z) (filter test whole))) (filter test whole) x there (ap not (any-none (λ y. less y x) (filter test whole) none_less))
    (λ z m t. elim (inside z m) [
      | inl e ↦ sym e
      | inr h ↦ absurd (true≢false (sym t ∙ ap not (any-has (λ y. less y z) (filter test whole) x there (k.rising.0 z h))))
    ])

-- rising lists
pub rising-agree : {A : Type 0} (less later : A → A → Bool) (xs : List A) → ((x y : A) → Has xs x → Has xs y → later x y ≡ less x y) → Rising less xs → Rising later xs
rising-agree less later [] h r = tt
rising-agree less later (x ∷ xs) h r = (λ y m. h x y (inl refl) (inr m) ∙ r.0 y m, rising-agree less later xs (λ a b ha hb. h a b (inr ha) (inr hb)) r.1)

pub rising-filter : {A : Type 0} (less : A → A → Bool) (p : A → Bool) (xs : List A) → Rising less xs → Rising less (filter p xs)
rising-filter less p [] r = tt
rising-filter less p (x ∷ xs) r = elim (cases_bool (p x)) [
  | inl holds ↦ rw holds (λ y m. r.0 y (filter-has p xs y m).0, rising-filter less p xs r.1)
  | inr fails ↦ rw fails (rising-filter less p xs r.1)
]

pub rising-append : {A : Type 0} (less : A → A → Bool) (xs ys : List A) → Rising less xs → Rising less ys → ((x y : A) → Has xs x → Has ys y → less x y ≡ true) → Rising less (xs ++ ys)
rising-append less [] ys r s h = s
rising-append less (x ∷ xs) ys r s h = (λ y m. elim (has-append_cases xs ys y m) [ inl l ↦ r.0 y l | inr n ↦ h x y (inl refl) n ], rising-append less xs ys r.1 s (λ a b ha hb. h a b (inr ha) hb))

-- an entry that changes neither the test nor the order of those that pass
pub keeps-same : {A : Type 0} (whole : List A) (test new : A → Bool) (less later : A → A → Bool) (xs : List A) → ((x : A) → new x ≡ test x) → ((x y : A) → test x ≡ true → test y ≡ true → later x y ≡ less x y) → Keeps whole test less xs → Keeps whole new later xs
keeps-same whole test new less later xs t l k = record {
  rising = rising-agree less later xs (λ x y hx hy. l x y (k.passes x hx) (k.passes y hy)) k.rising;
  within = k.within;
  passes = λ x h. t x ∙ k.passes x h;
  all = λ x w h. k.all x w (sym (t x) ∙ h);
}

-- an entry after which only those with another test besides pass
pub keeps-filter : {A : Type 0} (whole : List A) (test new : A → Bool) (less later : A → A → Bool) (stays : A → Bool) (xs : List A) → ((x : A) → new x ≡ (stays x && test x)) → ((x y : A) → new x ≡ true → new y ≡ true → later x y ≡ less x y) → Keeps whole test less xs → Keeps whole new later (filter stays xs)
keeps-filter {A} whole test new less later stays xs t l k =
    let now : (x : A) → Has (filter stays xs) x → new x ≡ true = λ x h. (let q = filter-has stays xs x h in t x ∙ rw (q.1, k.passes x q.0) refl) in
    record {
      rising = rising-agree less later (filter stays xs) (λ x y hx hy. l x y (now x hx) (now y hy)) (rising-filter less stays xs k.rising);
      within = λ x h. k.within x (filter-has stays xs x h).0;
      passes = now;
      all = λ x w h. (let b = both_true (stays x) (test x) (sym (t x) ∙ h) in has-filter stays xs x (k.all x w b.1) b.0);
    }

-- an entry that brings those of ys behind all others, in rising order
pub keeps-append : {A : Type 0} (whole : List A) (test new : A → Bool) (less later : A → A → Bool) (xs ys : List A) → ((x : A) → test x ≡ true → new x ≡ true) → ((x : A) → Has whole x → new x ≡ true → (test x ≡ true) ⊎ Has ys x) → ((y : A) → Has ys y → Has whole y × (new y ≡ true)) → ((x y : A) → test x ≡ true → test y ≡ true → later x y ≡ less x y) → ((x y : A) → test x ≡ true → Has ys y → later x y ≡ true) → Rising later ys → Keeps whole test less xs → Keeps whole new later (xs ++ ys)
keeps-append whole test new less later xs ys stay come are agree behind r k = record {
  rising = rising-append later xs ys (rising-agree less later xs (λ x y hx hy. agree x y (k.passes x hx) (k.passes y hy)) k.rising) r (λ x y hx hy. behind x y (k.passes x hx) hy);
  within = λ x h. elim (has-append_cases xs ys x h) [ inl l ↦ k.within x l | inr m ↦ (are x m).0 ];
  passes = λ x h. elim (has-append_cases xs ys x h) [ inl l ↦ stay x (k.passes x l) | inr m ↦ (are x m).1 ];
  all = λ x w h. elim (come x w h) [ inl t ↦ has-append_left xs ys x (k.all x w t) | inr m ↦ has-append_right xs ys x m ];
}

-- an entry that brings p before all others
pub keeps-front : {A : Type 0} (whole : List A) (test new : A → Bool) (less later : A → A → Bool) (xs : List A) (p : A) → ((x : A) → test x ≡ true → new x ≡ true) → ((x : A) → Has whole x → new x ≡ true → (test x ≡ true) ⊎ (p ≡ x)) → Has whole p → new p ≡ true → ((x y : A) → test x ≡ true → test y ≡ true → later x y ≡ less x y) → ((x : A) → test x ≡ true → later p x ≡ true) → Keeps whole test less xs → Keeps whole new later (p ∷ xs)
keeps-front whole test new less later xs p stay come w n agree before k = record {
  rising = (λ y h. before y (k.passes y h), rising-agree less later xs (λ x y hx hy. agree x y (k.passes x hx) (k.passes y hy)) k.rising);
  within = λ x h. elim h [ inl e ↦ subst (Has whole) e w | inr m ↦ k.within x m ];
  passes = λ x h. elim h [ inl e ↦ ap new (sym e) ∙ n | inr m ↦ stay x (k.passes x m) ];
  all = λ x v h. elim (come x v h) [ inl t ↦ inr (k.all x v t) | inr e ↦ inl e ];
}

-- an entry that takes the first away
pub keeps-drop : {A : Type 0} (whole : List A) (test new : A → Bool) (less later : A → A → Bool) (p : A) (xs : List A) → ((x : A) → less x x ≡ false) → ((x : A) → new x ≡ true → test x ≡ true) → new p ≡ false → ((x : A) → test x ≡ true → (new x ≡ true) ⊎ (p ≡ x)) → ((x y : A) → new x ≡ true → new y ≡ true → later x y ≡ less x y) → Keeps whole test less (p ∷ xs) → Keeps whole new later xs
keeps-drop {A} whole test new less later p xs irr was gone stay agree k =
    let now : (x : A) → Has xs x → new x ≡ true = λ x h. elim (stay x (k.passes x (inr h))) [
      | inl n ↦ n
      | inr e ↦ absurd (true≢false (sym (k.rising.0 x h) ∙ ap (less p) (sym e) ∙ irr p))
    ] in
    record {
      rising = rising-agree less later xs (λ x y hx hy. agree x y (now x hx) (now y hy)) k.rising.1;
      within = λ x h. k.within x (inr h);
      passes = now;
      all = λ x w h. elim (k.all x w (was x h)) [ inl e ↦ absurd (true≢false (sym h ∙ ap new (sym e) ∙ gone)) | inr m ↦ m ];
    }

-- two rising lists with the same elements are one
pub rising-unique : {A : Type 0} (less : A → A → Bool) → ((x y : A) → less x y ≡ true → less y x ≡ false) → (xs ys : List A) → Rising less xs → Rising less ys → ((x : A) → Has xs x → Has ys x) → ((x : A) → Has ys x → Has xs x) → xs ≡ ys
rising-unique less asym [] [] r s h k = refl
rising-unique less asym [] (y ∷ ys) r s h k = absurd (k y (inl refl))
rising-unique less asym (x ∷ xs) [] r s h k = absurd (h x (inl refl))
rising-unique {A} less asym (x ∷ xs) (y ∷ ys) r s h k =
    let same : y ≡ x = elim (h x (inl refl)) [
      | inl e ↦ e
      | inr later ↦ elim (k y (inl refl)) [
        | inl e ↦ sym e
        | inr after ↦ absurd (true≢false (sym (s.0 x later) ∙ asym x y (r.0 y after)))
      ]
    ] in
    let apart : (z : A) → less z z ≡ false = λ z. elim (cases_bool (less z z)) [ inl t ↦ asym z z t | inr f ↦ f ] in
    let there : (z : A) → Has xs z → Has ys z = λ z m. elim (h z (inr m)) [ inl e ↦ absurd (true≢false (sym (r.0 z m) ∙ ap (less x) (sym e) ∙ ap (less x) same ∙ apart x)) | inr n ↦ n ] in
    let back : (z : A) → Has ys z → Has xs z = λ z m. elim (k z (inr m)) [ inl e ↦ absurd (true≢false (sym (s.0 z m) ∙ ap (less y) (sym e) ∙ ap (less y) (sym same) ∙ apart y)) | inr n ↦ n ] in
    ap₂ (λ z zs. z ∷ zs) (sym same) (rising-unique less asym xs ys r.1 s.1 there back)

-- putting a list in order
pub put-has : {A : Type 0} (less : A → A → Bool) (x : A) (ys : List A) (z : A) → Has (put less x ys) z → (x ≡ z) ⊎ Has ys z
put-has less x [] z h = h
put-has less x (y ∷ ys) z h = elim (cases_bool (less x y)) [
  | inl t ↦ rw t at h
  | inr f ↦ elim (rw f at h) [
    | inl e ↦ inr (inl e)
    | inr m ↦ elim (put-has less x ys z m) [ inl e ↦ inl e | inr n ↦ inr (inr n) ]
  ]
]

pub has-put : {A : Type 0} (less : A → A → Bool) (x : A) (ys : List A) (z : A) → (x ≡ z) ⊎ Has ys z → Has (put less x ys) z
has-put less x [] z h = h
has-put less x (y ∷ ys) z h = elim (cases_bool (less x y)) [
  | inl t ↦ rw t h
  | inr f ↦ rw f (elim h [
    | inl e ↦ inr (has-put less x ys z (inl e))
    | inr m ↦ elim m [ inl e ↦ inl e | inr n ↦ inr (has-put less x ys z (inr n)) ]
  ])
]

pub in_order-has : {A : Type 0} (less : A → A → Bool) (xs : List A) (z : A) → Has (in_order less xs) z → Has xs z
in_order-has less [] z h = h
in_order-has less (x ∷ xs) z h = elim (put-has less x (in_order less xs) z h) [ inl e ↦ inl e | inr m ↦ inr (in_order-has less xs z m) ]

pub has-in_order : {A : Type 0} (less : A → A → Bool) (xs : List A) (z : A) → Has xs z → Has (in_order less xs) z
has-in_order less [] z h = h
has-in_order less (x ∷ xs) z (inl e) = has-put less x (in_order less xs) z (inl e)
has-in_order less (x ∷ xs) z (inr m) = has-put less x (in_order less xs) z (inr (has-in_order less xs z m))

rising-put : {A : Type 0} (less : A → A → Bool) (x : A) (ys : List A) → ((a b c : A) → less a b ≡ true → less b c ≡ true → less a c ≡ true) → ((y : A) → Has ys y → (less x y ≡ true) ⊎ (less y x ≡ true)) → Rising less ys → Rising less (put less x ys)
rising-put less x [] trans total r = ((λ y m. absurd m), tt)
rising-put less x (y ∷ ys) trans total r = elim (cases_bool (less x y)) [
  | inl t ↦ rw t ((λ z m. elim m [ inl e ↦ ap (less x) (sym e) ∙ t | inr n ↦ trans x y z t (r.0 z n) ]), r)
  | inr f ↦ rw f (
    (λ z m. elim (put-has less x ys z m) [
      | inl e ↦ elim (total y (inl refl)) [ inl t ↦ absurd (true≢false (sym t ∙ f)) | inr t ↦ ap (less y) (sym e) ∙ t ]
      | inr n ↦ r.0 z n
    ]),
    rising-put less x ys trans (λ z m. total z (inr m)) r.1,
  )
]

pub rising-in_order : {A : Type 0} (less : A → A → Bool) (xs : List A) → ((a b c : A) → less a b ≡ true → less b c ≡ true → less a c ≡ true) → ((x y : A) → Has xs x → Has xs y → (x ≡ y → ⊥) → (less x y ≡ true) ⊎ (less y x ≡ true)) → Distinct xs → Rising less (in_order less xs)
rising-in_order less [] trans total d = tt
rising-in_order less (x ∷ xs) trans total d =
    rising-put less x (in_order less xs) trans
    (λ y m. let n = in_order-has less xs y m in total x y (inl refl) (inr n) (λ e. d.0 (subst (Has xs) (sym e) n)))
    (rising-in_order less xs trans (λ a b ha hb. total a b (inr ha) (inr hb)) d.1)

pub distinct-filter : {A : Type 0} (p : A → Bool) (xs : List A) → Distinct xs → Distinct (filter p xs)
distinct-filter p [] d = tt
distinct-filter p (x ∷ xs) d = elim (cases_bool (p x)) [
  | inl holds ↦ rw holds ((λ m. d.0 (filter-has p xs x m).0), distinct-filter p xs d.1)
  | inr fails ↦ rw fails (distinct-filter p xs d.1)
]

-- those that pass, put in order, are the list that keeps them
pub in_order-keeps : {A : Type 0} (whole : List A) (test : A → Bool) (less : A → A → Bool) (xs : List A) → ((x y : A) → less x y ≡ true → less y x ≡ false) → ((a b c : A) → less a b ≡ true → less b c ≡ true → less a c ≡ true) → ((x y : A) → Has whole x → Has whole y → (x ≡ y → ⊥) → (less x y ≡ true) ⊎ (less y x ≡ true)) → Distinct whole → Keeps whole test less xs → in_order less (filter test whole) ≡ xs
in_order-keeps whole test less xs asym trans total d k =
    rising-unique less asym (in_order less (filter test whole)) xs
    (rising-in_order less (filter test whole) trans (λ x y hx hy n. total x y (filter-has test whole x hx).0 (filter-has test whole y hy).0 n) (distinct-filter test whole d))
    k.rising
    (λ x m. let q = filter-has test whole x (in_order-has less (filter test whole) x m) in k.all x q.0 q.1)
    (λ x m. has-in_order less (filter test whole) x (has-filter test whole x (k.within x m) (k.passes x m)))

-- an entry that puts some anew, behind all others
pub keeps-renew : {A : Type 0} (whole : List A) (test new : A → Bool) (less later : A → A → Bool) (moved : A → Bool) (xs ys : List A) → ((x : A) → moved x ≡ false → new x ≡ test x) → ((x : A) → Has whole x → new x ≡ true → moved x ≡ true → Has ys x) → ((y : A) → Has ys y → Has whole y × (new y ≡ true)) → ((x y : A) → moved x ≡ false → moved y ≡ false → test x ≡ true → test y ≡ true → later x y ≡ less x y) → ((x y : A) → moved x ≡ false → test x ≡ true → Has ys y → later x y ≡ true) → Rising later ys → Keeps whole test less xs → Keeps whole new later (filter (λ x. not (moved x)) xs ++ ys)
keeps-renew {A} whole test new less later moved xs ys same come are agree behind r k =
    let still = λ (x : A) (h : (not (moved x) && test x) ≡ true). both_true (not (moved x)) (test x) h in
    let unmoved = λ (x : A) (h : (not (moved x) && test x) ≡ true). not_true (moved x) (still x h).0 in
    keeps-append whole (λ x. not (moved x) && test x) new less later (filter (λ x. not (moved x)) xs) ys
    (λ x h. same x (unmoved x h) ∙ (still x h).1)
    (λ x w h. elim (cases_bool (moved x)) [
      | inl m ↦ inr (come x w h m)
      | inr f ↦ inl (rw (f, ← same x f, h) refl)
    ])
    are
    (λ x y hx hy. agree x y (unmoved x hx) (unmoved y hy) (still x hx).1 (still y hy).1)
    (λ x y hx m. behind x y (unmoved x hx) (still x hx).1 m)
    r
    (keeps-filter whole test (λ x. not (moved x) && test x) less less (λ x. not (moved x)) xs (λ x. refl) (λ x y hx hy. refl) k)

-- and one that puts p anew, before all others
pub keeps-renew_front : {A : Type 0} (whole : List A) (test new : A → Bool) (less later : A → A → Bool) (moved : A → Bool) (xs : List A) (p : A) → ((x : A) → moved x ≡ false → new x ≡ test x) → ((x : A) → moved x ≡ true → p ≡ x) → Has whole p → new p ≡ true → ((x y : A) → moved x ≡ false → moved y ≡ false → test x ≡ true → test y ≡ true → later x y ≡ less x y) → ((x : A) → moved x ≡ false → test x ≡ true → later p x ≡ true) → Keeps whole test less xs → Keeps whole new later (p ∷ filter (λ x. not (moved x)) xs)
keeps-renew_front {A} whole test new less later moved xs p same only w n agree before k =
    let still = λ (x : A) (h : (not (moved x) && test x) ≡ true). both_true (not (moved x)) (test x) h in
    let unmoved = λ (x : A) (h : (not (moved x) && test x) ≡ true). not_true (moved x) (still x h).0 in
    keeps-front whole (λ x. not (moved x) && test x) new less later (filter (λ x. not (moved x)) xs) p
    (λ x h. same x (unmoved x h) ∙ (still x h).1)
    (λ x v h. elim (cases_bool (moved x)) [
      | inl m ↦ inr (only x m)
      | inr f ↦ inl (rw (f, ← same x f, h) refl)
    ])
    w n
    (λ x y hx hy. agree x y (unmoved x hx) (unmoved y hy) (still x hx).1 (still y hy).1)
    (λ x hx. before x (unmoved x hx) (still x hx).1)
    (keeps-filter whole test (λ x. not (moved x) && test x) less less (λ x. not (moved x)) xs (λ x. refl) (λ x y hx hy. refl) k)

-- the least of those with a further test is the first with it in the list
find-head : {A : Type 0} (p : A → Bool) (xs : List A) → find p xs ≡ slice_get (filter p xs) 0
find-head p [] = refl
find-head p (x ∷ xs) = elim (cases_bool (p x)) [ inl t ↦ rw t refl | inr f ↦ rw f (find-head p xs) ]

pub least-find : {A : Type 0} (whole : List A) (test further : A → Bool) (less : A → A → Bool) (xs : List A) → ((x y : A) → less x y ≡ true → less y x ≡ false) → ((x : A) → further x ≡ true → test x ≡ true) → Keeps whole test less xs → least less (filter further whole) ≡ find further xs
least-find {A} whole test further less xs asym within k =
    let t : (x : A) → further x ≡ (further x && test x) = λ x. elim (cases_bool (further x)) [ inl h ↦ rw (h, within x h) refl | inr h ↦ rw h refl ] in
    least-keeps whole further less (filter further xs) asym (keeps-filter whole test further less less further xs t (λ x y hx hy. refl) k)
    ∙ sym (find-head further xs)
