-- Places in the text of a marker.
use Rattle.std.proofs.Common.{◌≡◌, ℕ, ◌+◌, List, length, drop, drop-drop, refl, ap, sym, subst, ◌∙◌, inl, inr}
use Rattle.std.specs.Prelude.{Option, Some, None, Ok, Err, ok_or, option_map, ◌==◌}
use Rattle.std.specs.List.{prefix_len}
use Rattle.std.proofs.lemmas.Bool.{cases_Bool}
use Rattle.pytext.specs.Bytes.{is_white}
use Rattle.pytext.specs.Options.{◌>>=◌}
use Rattle.pytext.specs.White.{after_white}
use Rattle.pymark_core.specs.Inner.LentToken.{next_token}
use Rattle.pymark_core.specs.Marker.Token.{Token, token_at, token_len}
use Rattle.pymark_core.specs.declared.marker.error.MarkerError.{MarkerError}
use Rattle.pymark_core.specs.declared.marker.error.MarkerError.TheVariants.{Syntax}
use Rattle.pymark_expected.specs.Marker.Following.{depth_after, follow}
use Rattle.pymark_expected.specs.Marker.Place.{Place, Reaches, at_start, behind, behind_token, next_place}
use Rattle.pymark_expected.specs.Stretch.{EndsWith}
use Rattle.pymark_expected.specs.declared.marker.follow.Next.{Next}
use Rattle.pymark_expected.proofs.StretchLemmas.{end_of_drop, end_whole}

same_rest : (rest : List ℕ) (depth : ℕ) (o : Option Next) (q : Place)
    → option_map {U = Place} (λ next. record { rest = rest; next = next; depth = depth }) o ≡ Some q → q.rest ≡ rest
same_rest rest depth None q e = absurd cc
same_rest rest depth (Some next) q e =
    let made : Place = record { rest = rest; next = next; depth = depth } in
    let same : made ≡ q = cc in
    sym (ap (λ (p : Place). p.rest) same)

rest_of_token : (stage : Next) (depth : ℕ) (w : List ℕ) (o : Option Token) (q : Place)
    → (option_map Some (option_map {U = Token × List ℕ} (λ t. (t, drop (token_len t) w)) o) >>= λ front. behind stage depth front) ≡ Some q
    → (n : ℕ) × (q.rest ≡ drop n w)
rest_of_token stage depth w None q e = absurd cc
rest_of_token stage depth w (Some t) q e = (token_len t, same_rest (drop (token_len t) w) (depth_after t depth) (follow stage depth t) q e)

-- what is left behind a token is an end of what was left before it
rest_behind : (p q : Place) → next_place p ≡ Some q → (n : ℕ) × (q.rest ≡ drop n p.rest)
unfolding next_place
rest_behind p q e = elim (cases_Bool (length (after_white p.rest) == 0)) [
  | inl end ↦ let none : None ≡ Some q = rw end at e in absurd cc
  | inr more ↦
      let found = rest_of_token p.next p.depth (after_white p.rest) (token_at (after_white p.rest)) q (rw more at e) in
      (prefix_len is_white p.rest + found.0, found.1 ∙ drop-drop found.0 (prefix_len is_white p.rest) p.rest)
]

pub place_ends : (text : List ℕ) (place : Place) → Reaches text place → EndsWith text place.rest
place_ends _ _ (at_start text) = end_whole text
place_ends _ _ (behind_token text place next reached e) =
    let cut = rest_behind place next e in
    subst (EndsWith text) (sym cut.1) (end_of_drop text place.rest cut.0 (place_ends text place reached))

pub stop_ends : (text : List ℕ) (place : Place) → Reaches text place → EndsWith text (after_white place.rest)
stop_ends text place reached = end_of_drop text place.rest (prefix_len is_white place.rest) (place_ends text place reached)

-- ---- a token further, as the code meets it

given : {X : Type 0} (o : Option X) (x : X) → ok_or o Syntax ≡ Ok x → o ≡ Some x
given None x e = absurd cc
given (Some y) x e = let same : y ≡ x = cc in ap Some same

not_given : {X : Type 0} (o : Option X) (m : MarkerError) → ok_or o Syntax ≡ Err m → o ≡ None
not_given None m e = refl
not_given (Some y) m e = absurd cc

pub passed : (rest behind : List ℕ) (stage later : Next) (depth : ℕ) (token : Token)
    → ok_or (next_token rest) Syntax ≡ Ok (Some (token, behind)) → follow stage depth token ≡ Some later
    → next_place (record { rest = rest; next = stage; depth = depth }) ≡ Some (record { rest = behind; next = later; depth = depth_after token depth })
unfolding next_place
passed rest behind stage later depth token front may =
    rw (given (next_token rest) (Some (token, behind)) front, may) refl

pub stuck : (rest behind : List ℕ) (stage : Next) (depth : ℕ) (token : Token)
    → ok_or (next_token rest) Syntax ≡ Ok (Some (token, behind)) → follow stage depth token ≡ None
    → next_place (record { rest = rest; next = stage; depth = depth }) ≡ None
unfolding next_place
stuck rest behind stage depth token front may =
    rw (given (next_token rest) (Some (token, behind)) front, may) refl

pub ended : (rest : List ℕ) (stage : Next) (depth : ℕ) → ok_or (next_token rest) Syntax ≡ Ok None
    → next_place (record { rest = rest; next = stage; depth = depth }) ≡ None
unfolding next_place
ended rest stage depth front = rw (given (next_token rest) None front) refl

pub unread : (rest : List ℕ) (stage : Next) (depth : ℕ) (error : MarkerError) → ok_or (next_token rest) Syntax ≡ Err error
    → next_place (record { rest = rest; next = stage; depth = depth }) ≡ None
unfolding next_place
unread rest stage depth error front = rw (not_given (next_token rest) error front) refl
