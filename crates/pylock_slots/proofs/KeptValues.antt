-- The machine values of a `Kept`, and of a `Loose` of an object. Assumes `Logic`.
use Rattle.std.proofs.Common.{◌≡◌, List, [], ◌∷◌, ◌++◌, refl, subst}
use Rattle.std.proofs.lemmas.Bool.{false≢true}
use seplogic.Ra.Ura.{Ura}
use mir.Val.{Val, vstruct, vcons, vnil, of_list}
use types.Logic.{Logic}
use types.Kit.{Item, Goal, Seq, Step, step, ‵, ◌$◌, drop, fsplit, fjoin, fpick, fpack, feq_i, feq_l}
use denote.RattleType.{RattleType, Valss}
use denote.Builtin.{RawPtr}
use denote.RawPtr.{Ptr, ptr_val}
use denote.Steps.{nothing}
use denote.Struct.Struct.{within}
use denote.Struct.Owning.{shape}
use Rattle.std.specs.Prelude.{Option, None, Some, true}
use Rattle.std.specs.contracts.alloc.Global as heap_row
use Rattle.std.proofs.alloc.Global.TheLaws as heap_laws
use Rattle.std.specs.contracts.impls.GlobalAllocator.TheImpl.{ghosts}
use Rattle.pylock_slots.specs.Kept.{is_full, kept_at}
use Rattle.pylock_slots.specs.declared.object.Object.{Object}
use Rattle.pylock_slots.specs.contracts.object.Object as object
use Rattle.pylock_slots.specs.contracts.kept.Kept as kept
use Rattle.pylock_slots.proofs.Values as values

abbrev pub one : Val → Val
one v = vstruct (vcons v vnil)

abbrev pub R : RattleType
R = object.the_row

abbrev pub Z : RattleType
Z = heap_row.the_row

abbrev pub K : RattleType
K = kept.the_row

abbrev pub L : RattleType
L = values.Loose R Z heap_laws.the_row_laws ghosts

-- the object of a slot that is full
pub the_object : (o : Option Object) → is_full o ≡ true → Object
the_object None wrong = absurd (false≢true wrong)
the_object (Some x) _ = x

pub is_the : (o : Option Object) (full : is_full o ≡ true) → o ≡ Some (the_object o full)
unfolding the_object
is_the None wrong = absurd (false≢true wrong)
is_the (Some x) _ = refl

module _ {M : Type 1} {𝓤 : Ura M} {𝓛 : Logic 𝓤} {U : Type 0} {Γ : List (Item 𝓤)} {G : Goal 𝓤 𝓛.H} where
  pub kept_in : U → (p : Ptr) (x : Option Object)
      → Step U 𝓛 (‵ (K.own_val (record { at = p; object = x }) (one (ptr_val p) ∷ [])) ∷ Γ) G (‵ (kept_at p x) ∷ Γ) G
  kept_in t p x = step (λ s. let v : Val = one (ptr_val p) in
      nothing t $ feq_i t (List Val) (ptr_val p ∷ []) (ptr_val p ∷ []) refl $ fjoin t $ feq_i t (List Val) (v ∷ []) (v ∷ []) refl $ fjoin t $
      fpack t (Valss (RawPtr ∷ [])) (within (shape kept.the_type) (p, tt) (v ∷ [])) (ptr_val p ∷ [], tt) $ fjoin t $ s)

  pub kept_out : U → (d : K.Denot) (vs : List Val)
      → (vs ≡ one (ptr_val d.at) ∷ [] → Seq U 𝓛 (‵ (kept_at d.at d.object) ∷ Γ) G)
      → Seq U 𝓛 (‵ (K.own_val d vs) ∷ Γ) G
  kept_out t d vs k =
      fsplit t $ fpick t (λ vss. fsplit t $ feq_l t (λ ev. fsplit t $ feq_l t (λ ep. drop t $
      k (subst (λ (ps : List Val). vs ≡ vstruct (of_list (ps ++ [])) ∷ []) ep ev))))
