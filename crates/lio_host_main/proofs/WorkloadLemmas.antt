-- One more number of a list.
use Rattle.std.proofs.Common.{◌≡◌, ℕ, ◌+◌, List, [], ◌∷◌, ◌++◌, map, ap, sym, ◌∙◌, arith, append-nil, append_assoc}
use Rattle.std.specs.List.{flat_map, range_with_len}
use Rattle.std.proofs.lemmas.List.FromFn.{map-range_with_len_more}
use Rattle.std.proofs.lemmas.List.Folds.{flat_map-map}
use Rattle.std.proofs.lemmas.Grind.{flat_map-append}
use Rattle.lio_host_main.specs.Generated.{comma_before, filled, listed, input_text}

same : (f : ℕ → List ℕ) (n : ℕ) → flat_map f (map (λ k. k) (range_with_len 0 n)) ≡ flat_map f (range_with_len 0 n)
same f n = flat_map-map f (λ k. k) (range_with_len 0 n)

-- what stands for one number more
flat_more : (f : ℕ → List ℕ) (n : ℕ) → flat_map f (range_with_len 0 (n + 1)) ≡ flat_map f (range_with_len 0 n) ++ f n
flat_more f n =
    let more : map (λ k. k) (range_with_len 0 (n + 1)) ≡ map (λ k. k) (range_with_len 0 n) ++ n ∷ [] = map-range_with_len_more (λ (k : ℕ). k) 0 n n (omega arith) in
    sym (same f (n + 1)) ∙ ap (flat_map f) more ∙ flat_map-append f (map (λ k. k) (range_with_len 0 n)) (n ∷ [])
    ∙ ap (λ xs. xs ++ (f n ++ [])) (same f n) ∙ ap (λ xs. flat_map f (range_with_len 0 n) ++ xs) (append-nil (f n))

pub listed_more : (pattern : List ℕ) (n : ℕ) → listed pattern (n + 1) ≡ listed pattern n ++ (comma_before n ++ filled pattern n)
unfolding listed
listed_more pattern n = flat_more (λ number. comma_before number ++ filled pattern number) n

pub letters_more : (f : ℕ → ℕ) (n : ℕ) → map f (range_with_len 0 (n + 1)) ≡ map f (range_with_len 0 n) ++ f n ∷ []
letters_more f n = map-range_with_len_more f 0 n n (omega arith)

pub inputs_more : (n : ℕ) → map input_text (range_with_len 0 (n + 1)) ≡ map input_text (range_with_len 0 n) ++ input_text n ∷ []
inputs_more n = map-range_with_len_more input_text 0 n n (omega arith)

pub listed_step : (base out comma new pattern : List ℕ) (n : ℕ) → out ≡ base ++ listed pattern n → comma ≡ out ++ comma_before n → new ≡ comma ++ filled pattern n → new ≡ base ++ listed pattern (n + 1)
listed_step base out comma new pattern n p q r =
    r ∙ ap (λ xs. xs ++ filled pattern n) (q ∙ ap (λ xs. xs ++ comma_before n) p) ∙ append_assoc (base ++ listed pattern n) (comma_before n) (filled pattern n)
    ∙ append_assoc base (listed pattern n) (comma_before n ++ filled pattern n) ∙ ap (λ xs. base ++ xs) (sym (listed_more pattern n))
