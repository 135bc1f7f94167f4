-- Users are shown alike, and texts without secrets stay.
use Rattle.std.proofs.Common.{◌≡◌, ◌∙◌, ℕ, ◌==◌, true, false, List, [], ◌∷◌, ◌++◌, Option, Some, None, option_map, unwrap_or, if◌then◌else◌, ap, refl, subst, sym, append_assoc, inl, inr}
use Rattle.std.proofs.lemmas.Bool.{cases_Bool, or_parts}
use Rattle.std.proofs.lemmas.Bool.Decides.{Decides-eqb}
use Rattle.std.specs.List.{list_any}
use Rattle.std.specs.Option.{option_map_or}
use Rattle.std.specs.Prelude.{codes}
use Rattle.pytext.specs.Options.{either}
use Rattle.pywheel_core.proofs.Lemmas.Texts.Cuts as cuts
use Rattle.pywheel_core.proofs.Lemmas.Texts.LastCut.{last_cut_lacking}
use Rattle.pywheel_core.specs.Texts.{before_cut, cut_at_last}
use Rattle.pylock_shown.proofs.EachLemmas.{by_cuts, each_at, each_first, each_head, each_stays, lacks_both, lacks_more}
use Rattle.pylock_shown.proofs.MarkLemmas.{fronts_alike, without_query}
use Rattle.pylock_shown.proofs.SlashLemmas.{front_stays, slash_first}
use Rattle.pylock_shown.specs.Hidden.{hidden, hidden_front, hidden_place, is_slash, without_user}
use Rattle.pylock_shown.specs.Parted.{Lacks}

-- ---- the words of the laws

not_one : (c : ℕ) (bytes : List ℕ) (b : ℕ) → list_any (λ d. c == d) bytes ≡ true → list_any (λ d. b == d) bytes ≡ false → (b == c) ≡ false
not_one c bytes b has lacks = elim (cases_Bool (b == c)) [
  | inl same ↦
      let it : list_any (λ d. b == d) bytes ≡ true = subst (λ x. list_any (λ d. x == d) bytes ≡ true) (sym ((Decides-eqb b c).0 same)) has in
      absurd (let no : true ≡ false = sym it ∙ lacks in cc)
  | inr differs ↦ differs
]

-- a text that lacks some bytes lacks each
pub lacks_one : (c : ℕ) (bytes text : List ℕ) → list_any (λ d. c == d) bytes ≡ true → Lacks bytes text → cuts.Lacks c text
lacks_one c bytes [] has lacks = refl
lacks_one c bytes (b ∷ text) has lacks =
    let both = or_parts (list_any (λ d. b == d) bytes) (list_any (λ b. list_any (λ d. b == d) bytes) text) lacks in
    lacks_more c b text (not_one c bytes b has both.0) (lacks_one c bytes text has both.1)

-- the parts of a text, from the right
pub three : (a b c d : List ℕ) → ((a ++ b) ++ c) ++ d ≡ a ++ (b ++ (c ++ d))
three a b c d = append_assoc (a ++ b) c d ∙ append_assoc a b (c ++ d)

-- ---- before an `@`

last_first : (u : List ℕ) (o : Option (List ℕ × List ℕ))
    → option_map (λ cut. cut.1) (either (option_map (before_cut 64) o) (Some ([], u))) ≡ Some (unwrap_or (option_map (λ cut. cut.1) o) u)
last_first u None = refl
last_first u (Some x) = refl

last_more : (b : ℕ) (o r : Option (List ℕ × List ℕ)) (z : List ℕ) → option_map (λ cut. cut.1) o ≡ Some z
    → option_map (λ cut. cut.1) (either (option_map (before_cut b) o) r) ≡ Some z
last_more b None r z is = absurd cc
last_more b (Some x) r z is = is

abbrev behind : List ℕ → List ℕ
behind u = unwrap_or (option_map (λ cut. cut.1) (cut_at_last 64 u)) u

last_behind : (s u : List ℕ) → option_map (λ cut. cut.1) (cut_at_last 64 (s ++ (64 ∷ u))) ≡ Some (behind u)
last_behind [] u = last_first u (cut_at_last 64 u)
last_behind (b ∷ s) u =
    last_more b (cut_at_last 64 (s ++ (64 ∷ u))) (if b == 64 then Some ([], s ++ (64 ∷ u)) else None) (behind u) (last_behind s u)

pub user_by : (text z : List ℕ) (o : Option (List ℕ × List ℕ)) → option_map (λ cut. cut.1) o ≡ Some z
    → option_map_or (λ cut. codes "***@" ++ cut.1) o text ≡ codes "***@" ++ z
user_by text z None is = absurd cc
user_by text z (Some x) is = ap (λ o. codes "***@" ++ unwrap_or o []) is

user_alike : (s t u : List ℕ) → without_user (s ++ (64 ∷ u)) ≡ without_user (t ++ (64 ∷ u))
user_alike s t u =
    user_by (s ++ (64 ∷ u)) (behind u) (cut_at_last 64 (s ++ (64 ∷ u))) (last_behind s u)
    ∙ sym (user_by (t ++ (64 ∷ u)) (behind u) (cut_at_last 64 (t ++ (64 ∷ u))) (last_behind t u))

-- ---- what two texts have before an `@`, and the `@`

abbrev with_at : List ℕ → List ℕ
with_at s = s ++ (64 ∷ [])

at_alike : (s t u : List ℕ) → without_user (with_at s ++ u) ≡ without_user (with_at t ++ u)
at_alike s t u =
    ap without_user (append_assoc s (64 ∷ []) u) ∙ user_alike s t u ∙ ap without_user (sym (append_assoc t (64 ∷ []) u))

at_lacks : (c : ℕ) (s : List ℕ) → (64 == c) ≡ false → cuts.Lacks c s → cuts.Lacks c (with_at s)
at_lacks c s other lacks = lacks_both c s (64 ∷ []) lacks (lacks_more c 64 [] other refl)

-- the same behind other bytes of the piece
later_alike : (s t q u : List ℕ) → without_user ((q ++ with_at s) ++ u) ≡ without_user ((q ++ with_at t) ++ u)
later_alike s t q u =
    ap (λ x. without_user (x ++ u)) (sym (append_assoc q s (64 ∷ []))) ∙ at_alike (q ++ s) (q ++ t) u
    ∙ ap (λ x. without_user (x ++ u)) (append_assoc q t (64 ∷ []))

-- ---- the law

slash_is : (b : ℕ) → is_slash b ≡ true → (b == 47) ≡ false → b ≡ 92
slash_is b is isnt =
    let two : (b == 92) ≡ true = rw isnt at is in
    (Decides-eqb b 92).0 two

no_slash : (slash : ℕ) → is_slash slash ≡ true → (slash == 63) ≡ false
no_slash slash is = elim (cases_Bool (slash == 63)) [
  | inl mark ↦ absurd (let no : false ≡ true = subst (λ b. is_slash b ≡ true) ((Decides-eqb slash 63).0 mark) is in cc)
  | inr other ↦ other
]

module _ (first second : List ℕ) (no_first : Lacks (codes "/?") first) (no_second : Lacks (codes "/?") second) where
  -- at the begin of a place
  places_alike : (u : List ℕ) → hidden_place (with_at first ++ u) ≡ hidden_place (with_at second ++ u)
  places_alike u = each_head 47 without_user (with_at first) (with_at second)
      (at_lacks 47 first refl (lacks_one 47 (codes "/?") first refl no_first))
      (at_lacks 47 second refl (lacks_one 47 (codes "/?") second refl no_second)) (at_alike first second) u

  -- behind a `/` of a place
  behind_slash : (p u : List ℕ) → hidden_place (p ++ (47 ∷ (with_at first ++ u))) ≡ hidden_place (p ++ (47 ∷ (with_at second ++ u)))
  behind_slash p u =
      each_at 47 without_user p (with_at first ++ u)
      ∙ ap (λ t. hidden_place p ++ (47 ∷ t)) (places_alike u)
      ∙ sym (each_at 47 without_user p (with_at second ++ u))

  -- behind a `\` of a place, which ends no piece
  behind_back : (p u : List ℕ) → hidden_place (p ++ (92 ∷ (with_at first ++ u))) ≡ hidden_place (p ++ (92 ∷ (with_at second ++ u)))
  behind_back p u = by_cuts 47 (λ p. hidden_place (p ++ (92 ∷ (with_at first ++ u))) ≡ hidden_place (p ++ (92 ∷ (with_at second ++ u))))
      (λ p no_p.
      ap hidden_place (sym (append_assoc p (92 ∷ with_at first) u))
      ∙ each_head 47 without_user (p ++ (92 ∷ with_at first)) (p ++ (92 ∷ with_at second))
      (lacks_both 47 p (92 ∷ with_at first) no_p (no 47 first refl refl (lacks_one 47 (codes "/?") first refl no_first)))
      (lacks_both 47 p (92 ∷ with_at second) no_p (no 47 second refl refl (lacks_one 47 (codes "/?") second refl no_second)))
      (later_alike (92 ∷ first) (92 ∷ second) p) u
      ∙ ap hidden_place (append_assoc p (92 ∷ with_at second) u))
      (λ a b no_a so.
      ap hidden_place (append_assoc a (47 ∷ b) (92 ∷ (with_at first ++ u)))
      ∙ each_first 47 without_user a (b ++ (92 ∷ (with_at first ++ u))) no_a
      ∙ ap (λ t. without_user a ++ (47 ∷ t)) so
      ∙ sym (each_first 47 without_user a (b ++ (92 ∷ (with_at second ++ u))) no_a)
      ∙ ap hidden_place (sym (append_assoc a (47 ∷ b) (92 ∷ (with_at second ++ u)))))
      p
    where
      no : (c : ℕ) (s : List ℕ) → (92 == c) ≡ false → (64 == c) ≡ false → cuts.Lacks c s → cuts.Lacks c (92 ∷ with_at s)
      no c s back at lacks = lacks_more c 92 (with_at s) back (at_lacks c s at lacks)

  behind_either : (slash : ℕ) (p u : List ℕ) → is_slash slash ≡ true
      → hidden_place (p ++ (slash ∷ (with_at first ++ u))) ≡ hidden_place (p ++ (slash ∷ (with_at second ++ u)))
  behind_either slash p u is = elim (cases_Bool (slash == 47)) [
    | inl one ↦
        subst (λ b. hidden_place (p ++ (b ∷ (with_at first ++ u))) ≡ hidden_place (p ++ (b ∷ (with_at second ++ u))))
        (sym ((Decides-eqb slash 47).0 one)) (behind_slash p u)
    | inr isnt ↦
        subst (λ b. hidden_place (p ++ (b ∷ (with_at first ++ u))) ≡ hidden_place (p ++ (b ∷ (with_at second ++ u))))
        (sym (slash_is slash is isnt)) (behind_back p u)
  ]

  -- behind a slash of a text without query
  in_front : (slash : ℕ) (place u : List ℕ) → is_slash slash ≡ true
      → hidden_front (place ++ (slash ∷ (with_at first ++ u))) ≡ hidden_front (place ++ (slash ∷ (with_at second ++ u)))
  in_front slash [] u is =
      slash_first slash (with_at first ++ u) is ∙ ap (λ t. slash ∷ t) (places_alike u) ∙ sym (slash_first slash (with_at second ++ u) is)
  in_front slash (b ∷ place) u is = elim (cases_Bool (is_slash b)) [
    | inl earlier ↦
        slash_first b (place ++ (slash ∷ (with_at first ++ u))) earlier
        ∙ ap (λ t. b ∷ t) (behind_either slash place u is)
        ∙ sym (slash_first b (place ++ (slash ∷ (with_at second ++ u))) earlier)
    | inr plain ↦
        front_stays b (place ++ (slash ∷ (with_at first ++ u))) plain
        ∙ ap (λ t. b ∷ t) (in_front slash place u is)
        ∙ sym (front_stays b (place ++ (slash ∷ (with_at second ++ u))) plain)
  ]

  in_text : (slash : ℕ) (place u : List ℕ) → is_slash slash ≡ true → cuts.Lacks 63 place
      → hidden (place ++ (slash ∷ (with_at first ++ u))) ≡ hidden (place ++ (slash ∷ (with_at second ++ u)))
  in_text slash place u is no_place =
      ap hidden (sym (append_assoc place (slash ∷ with_at first) u))
      ∙ fronts_alike hidden_front (place ++ (slash ∷ with_at first)) (place ++ (slash ∷ with_at second))
      (no first (lacks_one 63 (codes "/?") first refl no_first)) (no second (lacks_one 63 (codes "/?") second refl no_second))
      (λ u.
      ap hidden_front (append_assoc place (slash ∷ with_at first) u)
      ∙ in_front slash place u is
      ∙ ap hidden_front (sym (append_assoc place (slash ∷ with_at second) u)))
      u
      ∙ ap hidden (append_assoc place (slash ∷ with_at second) u)
    where
      no : (s : List ℕ) → cuts.Lacks 63 s → cuts.Lacks 63 (place ++ (slash ∷ with_at s))
      no s lacks = lacks_both 63 place (slash ∷ with_at s) no_place (lacks_more 63 slash (with_at s) (no_slash slash is) (at_lacks 63 s refl lacks))

pub user_is_hidden : (place first second rest : List ℕ) (slash : ℕ) → is_slash slash ≡ true
    → Lacks (codes "?") place → Lacks (codes "/?") first → Lacks (codes "/?") second
    → hidden ((place ++ (slash ∷ first)) ++ (64 ∷ rest)) ≡ hidden ((place ++ (slash ∷ second)) ++ (64 ∷ rest))
user_is_hidden place first second rest slash is no_place no_first no_second =
    ap hidden (parts first)
    ∙ in_text first second no_first no_second slash place rest is (lacks_one 63 (codes "?") place refl no_place)
    ∙ ap hidden (sym (parts second))
  where
    parts : (s : List ℕ) → (place ++ (slash ∷ s)) ++ (64 ∷ rest) ≡ place ++ (slash ∷ (with_at s ++ rest))
    parts s = append_assoc place (slash ∷ s) (64 ∷ rest) ∙ ap (λ t. place ++ (slash ∷ t)) (sym (append_assoc s (64 ∷ []) rest))

-- ---- a text with neither `@` nor `?`

user_stays : (p : List ℕ) → cuts.Lacks 64 p → without_user p ≡ p
user_stays p lacks = rw (last_cut_lacking 64 p lacks) refl

front_plain : (text : List ℕ) → cuts.Lacks 64 text → hidden_front text ≡ text
front_plain [] no_at = refl
front_plain (b ∷ text) no_at =
    let at = or_parts (b == 64) (list_any (λ d. d == 64) text) no_at in
    elim (cases_Bool (is_slash b)) [
      | inl slash ↦ slash_first b text slash ∙ ap (λ t. b ∷ t) (each_stays 47 without_user 64 user_stays text at.1)
      | inr plain ↦ front_stays b text plain ∙ ap (λ t. b ∷ t) (front_plain text at.1)
    ]

pub plain_stays : (text : List ℕ) → Lacks (codes "@?") text → hidden text ≡ text
plain_stays text lacks =
    without_query hidden_front text (lacks_one 63 (codes "@?") text refl lacks)
    ∙ front_plain text (lacks_one 64 (codes "@?") text refl lacks)
