-- What a shelf shows, as tiles come to the front, leave and are written below.
use Rattle.std.proofs.Common.{◌≡◌, ℕ, zero, suc, ◌+◌, ◌<◌, ◌≤◌, min, List, [], ◌∷◌, ◌++◌, map, length, get_or, take, drop, set, Some, None, Option, sym, refl, ap, ◌∙◌, inl, inr, arith}
use Rattle.std.specs.List.{range_with_len}
use Rattle.std.proofs.lemmas.Bool.{cases_Bool, cases_eq, cases_lt, eq-eqb, ne_eqb}
use Rattle.std.proofs.lemmas.List.{length-take, length-set, length-map, get_or-take, get_or_past, get_or-set_other, get_or-set_same, take-append-drop, drop_more}
use Rattle.std.proofs.lemmas.List.FromFn.{length-map-range_with_len, get_or-map-range_with_len, fill_by_all}
use Rattle.stores.specs.Meaning.{Store, Lawful, count, tile_of, written}
use Rattle.stores.specs.Layers.{raised}
use Rattle.shelves.specs.declared.entry.Entry.{Entry}
use Rattle.shelves.specs.Shelves.{Shelved, blank, clean, later, place_of, to_front, written_back, touched_at, touched, shown, shown_at, shelf_store, store_of, Good, Kept}
use Rattle.shelves.proofs.Lists.{tile_in, place_none, placed_some, placed_none}
use Rattle.shelves.proofs.Keeping.{good_written_back, kept_drop}

-- what writing back leaves alone
pub written_back_top : (b : Store) (xs : List Entry) → (written_back b xs).top ≡ b.top
written_back_top b [] = refl
written_back_top b (x ∷ xs) = elim (cases_Bool x.changed) [ inl t ↦ rw t (written_back_top (written b x.tile x.bytes) xs) | inr t ↦ rw t (written_back_top b xs) ]

pub written_back_faults : (b : Store) (xs : List Entry) → (written_back b xs).faults ≡ b.faults
written_back_faults b [] = refl
written_back_faults b (x ∷ xs) = elim (cases_Bool x.changed) [ inl t ↦ rw t (written_back_faults (written b x.tile x.bytes) xs) | inr t ↦ rw t (written_back_faults b xs) ]

pub written_back_count : (b : Store) (xs : List Entry) → count (written_back b xs) ≡ count b
written_back_count b [] = refl
written_back_count b (x ∷ xs) = elim (cases_Bool x.changed) [ inl t ↦ rw t (written_back_count (written b x.tile x.bytes) xs ∙ length-set b.tiles x.tile x.bytes) | inr t ↦ rw t (written_back_count b xs) ]

touched_top_at : (o : Option ℕ) (h : Shelved) (k : ℕ) → (touched_at o h k).below.top ≡ h.below.top
touched_top_at None h k = written_back_top h.below (drop 63 h.list)
touched_top_at (Some p) h k = refl

pub touched_top : (h : Shelved) (k : ℕ) → (touched h k).below.top ≡ h.below.top
touched_top h k = touched_top_at (place_of h.list k) h k

-- past the first entry
shown-later : (o : Option ℕ) (x : Entry) (xs : List Entry) (b : Store) (j : ℕ) → shown_at (later o) (x ∷ xs) b j ≡ shown_at o xs b j
shown-later None x xs b j = refl
shown-later (Some p) x xs b j = let s : p + 1 ≡ suc p = omega arith in rw s refl

pub shown_rest : (x : Entry) (xs : List Entry) (b : Store) (j : ℕ) → (x.tile ≡ j → ⊥) → shown (x ∷ xs) b j ≡ shown xs b j
shown_rest x xs b j ne = rw (ne_eqb x.tile j ne) (shown-later (place_of xs j) x xs b j)

pub shown_here : (x : Entry) (xs : List Entry) (b : Store) (j : ℕ) → x.tile ≡ j → shown (x ∷ xs) b j ≡ x.bytes
shown_here x xs b j e = rw (eq-eqb x.tile j e) refl

pub shown_off : (es : List Entry) (b : Store) (j : ℕ) → ((i : ℕ) → i < length es → tile_in es i ≡ j → ⊥) → shown es b j ≡ tile_of b j
shown_off es b j h = rw (place_none es j h) refl

-- a list over what the rest shows
shown-append : (xs ys : List Entry) (b b2 : Store) (j : ℕ) → tile_of b2 j ≡ shown ys b j → shown xs b2 j ≡ shown (xs ++ ys) b j
shown-append [] ys b b2 j e = e
shown-append (x ∷ xs) ys b b2 j e = elim (cases_eq x.tile j) [
  | inl t ↦ shown_here x xs b2 j t ∙ sym (shown_here x (xs ++ ys) b j t)
  | inr t ↦ shown_rest x xs b2 j t ∙ shown-append xs ys b b2 j e ∙ sym (shown_rest x (xs ++ ys) b j t)
]

off_first : (b : Store) (x : Entry) (xs : List Entry) → Kept b (x ∷ xs) → (i : ℕ) → i < length xs → tile_in xs i ≡ x.tile → ⊥
off_first b x xs k i l q = let e : suc i ≡ 0 = k.apart (suc i) 0 (omega arith) (omega arith) q in omega arith

kept_tail : (b b1 : Store) (x : Entry) (xs : List Entry) → Kept b (x ∷ xs) → b1 ≡ written_back b (x ∷ []) → Kept b1 xs
kept_tail b b1 x xs k e = record {
  few = omega (arith, k.few);
  good = λ i l. rw e (good_written_back b (x ∷ []) (get_or xs i blank) (k.good (suc i) (omega arith)) (one i l));
  apart = λ i j li lj q. let s : suc i ≡ suc j = k.apart (suc i) (suc j) (omega arith) (omega arith) q in omega arith;
}
  where
    one : (i : ℕ) → i < length xs → (j : ℕ) → j < length (x ∷ []) → tile_in (x ∷ []) j ≡ tile_in xs i → ⊥
    one i l zero m q = off_first b x xs k i l (sym q)
    one i l (suc j) m q = omega arith

same_shown : (o : Option ℕ) (xs : List Entry) (b b1 : Store) (j : ℕ) → tile_of b1 j ≡ tile_of b j → shown_at o xs b1 j ≡ shown_at o xs b j
same_shown None xs b b1 j e = e
same_shown (Some p) xs b b1 j e = refl

one_tile : (b : Store) (x : Entry) (j : ℕ) → Good b x → tile_of (written_back b (x ∷ [])) j ≡ shown (x ∷ []) b j
one_tile b x j g = elim (cases_eq x.tile j) [
  | inl t ↦ elim (cases_Bool x.changed) [
    | inl c ↦ rw c (ap (λ n. get_or (set b.tiles x.tile x.bytes) n []) (sym t) ∙ get_or-set_same b.tiles x.tile x.bytes [] g.within) ∙ sym (shown_here x [] b j t)
    | inr c ↦ rw c (ap (tile_of b) (sym t) ∙ sym (g.same c)) ∙ sym (shown_here x [] b j t)
  ]
  | inr t ↦ elim (cases_Bool x.changed) [
    | inl c ↦ rw c (get_or-set_other b.tiles x.tile j x.bytes [] (λ q. t (sym q))) ∙ sym (shown_rest x [] b j t)
    | inr c ↦ rw c refl ∙ sym (shown_rest x [] b j t)
  ]
]

-- what writing back leaves below is what the list shows
pub written_back_shown : (b : Store) (xs : List Entry) (j : ℕ) → Kept b xs → tile_of (written_back b xs) j ≡ shown xs b j
written_back_shown b [] j k = refl
written_back_shown b (x ∷ xs) j k =
    let g = k.good 0 (omega arith) in
    written_back_shown (written_back b (x ∷ [])) xs j (kept_tail b (written_back b (x ∷ [])) x xs k refl)
    ∙ elim (cases_eq x.tile j) [
      | inl t ↦ shown_off xs (written_back b (x ∷ [])) j (λ i l q. off_first b x xs k i l (q ∙ sym t)) ∙ one_tile b x j g ∙ shown_here x [] b j t ∙ sym (shown_here x xs b j t)
      | inr t ↦ same_shown (place_of xs j) xs b (written_back b (x ∷ [])) j (one_tile b x j g ∙ shown_rest x [] b j t) ∙ sym (shown_rest x xs b j t)
    ]

-- one shelf shows as another
pub shelf_same : (es es' : List Entry) (b b' : Store) → b'.top ≡ b.top → count b' ≡ count b → b'.faults ≡ b.faults → ((j : ℕ) → j < count b → shown es' b' j ≡ shown es b j) → shelf_store es' b' ≡ shelf_store es b
shelf_same es es' b b' t n f s =
    let ts : map (shown es' b') (range_with_len 0 (count b')) ≡ map (shown es b) (range_with_len 0 (count b)) =
    fill_by_all (shown es b) (map (shown es' b') (range_with_len 0 (count b'))) (count b) [] (length-map-range_with_len (shown es' b') 0 (count b') ∙ n)
    (λ j l. get_or-map-range_with_len (shown es' b') 0 (count b') j j [] (rw n l) (omega arith) ∙ s j l) in
    cc

-- a miss
pub same_miss : (es : List Entry) (b : Store) (k : ℕ) → Kept b es → place_of es k ≡ None → shelf_store (clean k (tile_of b k) ∷ take 63 es) (written_back b (drop 63 es)) ≡ shelf_store es b
same_miss es b k kept absent =
    shelf_same es (clean k (tile_of b k) ∷ take 63 es) b (written_back b (drop 63 es)) (written_back_top b (drop 63 es)) (written_back_count b (drop 63 es)) (written_back_faults b (drop 63 es))
    (λ j l. elim (cases_eq k j) [
      | inl t ↦ shown_here (clean k (tile_of b k)) (take 63 es) (written_back b (drop 63 es)) j t ∙ ap (tile_of b) t ∙ sym (shown_off es b j (λ i li q. placed_none es k absent i li (q ∙ sym t)))
      | inr t ↦ shown_rest (clean k (tile_of b k)) (take 63 es) (written_back b (drop 63 es)) j t
          ∙ shown-append (take 63 es) (drop 63 es) b (written_back b (drop 63 es)) j (written_back_shown b (drop 63 es) j (kept_drop b es 63 kept))
          ∙ ap (λ (z : List Entry). shown z b j) (take-append-drop 63 es)
    ])

-- a hit
shown_move : (xs ys : List Entry) (e : Entry) (b : Store) (j : ℕ) → ((i : ℕ) → i < length xs → tile_in xs i ≡ e.tile → ⊥) → shown (e ∷ (xs ++ ys)) b j ≡ shown (xs ++ (e ∷ ys)) b j
shown_move [] ys e b j off = refl
shown_move (x ∷ xs) ys e b j off =
    let ih = shown_move xs ys e b j (λ i l. off (suc i) (omega arith)) in
    elim (cases_eq x.tile j) [
      | inl t ↦ let ne : e.tile ≡ j → ⊥ = λ q. off 0 (omega arith) (t ∙ sym q) in
          shown_rest e (x ∷ (xs ++ ys)) b j ne ∙ shown_here x (xs ++ ys) b j t ∙ sym (shown_here x (xs ++ (e ∷ ys)) b j t)
      | inr t ↦ elim (cases_eq e.tile j) [
        | inl u ↦ shown_here e (x ∷ (xs ++ ys)) b j u ∙ sym (shown_here e (xs ++ ys) b j u) ∙ ih ∙ sym (shown_rest x (xs ++ (e ∷ ys)) b j t)
        | inr u ↦ shown_rest e (x ∷ (xs ++ ys)) b j u ∙ shown_rest x (xs ++ ys) b j t ∙ sym (shown_rest e (xs ++ ys) b j u) ∙ ih ∙ sym (shown_rest x (xs ++ (e ∷ ys)) b j t)
      ]
    ]

pub same_hit : (es : List Entry) (b : Store) (p : ℕ) → Kept b es → p < length es → shelf_store (to_front es p) b ≡ shelf_store es b
same_hit es b p kept h =
    let s : p + 1 ≡ suc p = omega arith in
    let whole : take p es ++ (get_or es p blank ∷ drop (suc p) es) ≡ es = ap (λ n. take p es ++ (get_or es p blank ∷ drop n es)) (sym s) ∙ ap (λ z. take p es ++ z) (sym (drop_more es p blank h)) ∙ take-append-drop p es in
    shelf_same es (to_front es p) b b refl refl refl
    (λ j l. shown_move (take p es) (drop (suc p) es) (get_or es p blank) b j
    (λ i li q. let m : i < min p (length es) = simp length-take at li in
    let m1 : i < p = omega arith in
    let e : i ≡ p = kept.apart i p (omega arith) h (ap (λ (x : Entry). x.tile) (sym (get_or-take p es i blank m1)) ∙ q) in omega arith)
    ∙ ap (λ (z : List Entry). shown z b j) whole)

same_at : (o : Option ℕ) (h : Shelved) (k : ℕ) → Kept h.below h.list → place_of h.list k ≡ o → shelf_store (touched_at o h k).list (touched_at o h k).below ≡ shelf_store h.list h.below
same_at None h k kept e = same_miss h.list h.below k kept e
same_at (Some p) h k kept e = same_hit h.list h.below p kept (placed_some h.list k p e).0

-- a touch leaves what the shelf means
pub touch_same : (h : Shelved) (k : ℕ) → Kept h.below h.list → store_of (touched h k) ≡ store_of h
touch_same h k kept = same_at (place_of h.list k) h k kept refl

pub shelf_count : (es : List Entry) (b : Store) → count (shelf_store es b) ≡ count b
shelf_count es b = length-map-range_with_len (shown es b) 0 (count b)

pub shelf_tile : (es : List Entry) (b : Store) (k : ℕ) → k < count b → tile_of (shelf_store es b) k ≡ shown es b k
shelf_tile es b k h = get_or-map-range_with_len (shown es b) 0 (count b) k k [] h (omega arith)

shown_wide : (o : Option ℕ) (es : List Entry) (b : Store) (k : ℕ) → Lawful b → Kept b es → place_of es k ≡ o → k < count b → length (shown_at o es b k) ≡ 64
shown_wide None es b k l kept e h = l.wide k h
shown_wide (Some p) es b k l kept e h = (kept.good p (placed_some es k p e).0).wide

shown_low : (o : Option ℕ) (es : List Entry) (b : Store) (k i : ℕ) → Lawful b → Kept b es → place_of es k ≡ o → get_or (shown_at o es b k) i 0 ≤ b.top
shown_low None es b k i l kept e = l.low k i
shown_low (Some p) es b k i l kept e = (kept.good p (placed_some es k p e).0).low i

-- a shelf over a lawful store is a lawful store
pub shelf_lawful : (es : List Entry) (b : Store) → Lawful b → Kept b es → Lawful (shelf_store es b)
shelf_lawful es b l kept = record {
  wide = λ k h. let h1 : k < count b = rw (shelf_count es b) at h in
      ap length (shelf_tile es b k h1) ∙ shown_wide (place_of es k) es b k l kept refl h1;
  low = λ k i. elim (cases_lt k (count b)) [
    | inl h ↦ rw (shelf_tile es b k h) (shown_low (place_of es k) es b k i l kept refl)
    | inr h ↦ rw (get_or_past (map (shown es b) (range_with_len 0 (count b))) k [] (rw (shelf_count es b) h)) (omega arith)
  ];
  byte = l.byte;
  few = rw (shelf_count es b) l.few;
  faulted = length-map b.faults raised ∙ l.faulted ∙ sym (shelf_count es b);
}
