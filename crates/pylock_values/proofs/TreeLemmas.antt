-- A marker's tree is what its pieces are.
use Rattle.std.proofs.Common.{◌≡◌, ◌++◌, [], ◌∷◌, List, refl, sym, ap, ◌∙◌}
use Rattle.std.specs.Prelude.{codes}
use Rattle.pymark_core.specs.Marker.Grammar.{tree_tokens, conjunction_tokens, atom_tokens, comparison_tokens}
use Rattle.pymark_core.specs.Marker.Pieces as piece
use Rattle.pymark_core.specs.Marker.Pieces.{PieceValue, tree_pieces, conjunction_pieces, atom_pieces}
use Rattle.pymark_core.specs.Marker.RoundTrip.{tree_read_back}
use Rattle.pymark_core.specs.Marker.Token.{Token, opening, closing, word}
use Rattle.pymark_core.specs.Marker.Tree.{Tree, Conjunction, Atom, last, or, only, and, leaf, group}

-- pieces as tokens, before the tokens after them
abbrev piece_tokens : PieceValue → List Token → List Token
piece_tokens (piece.comparison c) behind = comparison_tokens c behind
piece_tokens piece.both behind = word (codes "and") ∷ behind
piece_tokens piece.either behind = word (codes "or") ∷ behind
piece_tokens piece.opening behind = opening ∷ behind
piece_tokens piece.closing behind = closing ∷ behind

abbrev pieces_tokens : List PieceValue → List Token → List Token
pieces_tokens [] behind = behind
pieces_tokens (p ∷ ps) behind = piece_tokens p (pieces_tokens ps behind)

joined : (ps qs : List PieceValue) (behind : List Token) → pieces_tokens (ps ++ qs) behind ≡ pieces_tokens ps (pieces_tokens qs behind)
joined [] qs behind = refl
joined (p ∷ ps) qs behind = ap (piece_tokens p) (joined ps qs behind)

mutual
  tree_is : (tree : Tree) (behind : List Token) → pieces_tokens (tree_pieces tree) behind ≡ tree_tokens tree behind
  tree_is (last c) behind = conjunction_is c behind
  tree_is (or c others) behind =
      joined (conjunction_pieces c) (piece.either ∷ tree_pieces others) behind
      ∙ conjunction_is c (word (codes "or") ∷ pieces_tokens (tree_pieces others) behind)
      ∙ ap (λ (ts : List Token). conjunction_tokens c (word (codes "or") ∷ ts)) (tree_is others behind)

  conjunction_is : (c : Conjunction) (behind : List Token) → pieces_tokens (conjunction_pieces c) behind ≡ conjunction_tokens c behind
  conjunction_is (only a) behind = atom_is a behind
  conjunction_is (and a others) behind =
      joined (atom_pieces a) (piece.both ∷ conjunction_pieces others) behind
      ∙ atom_is a (word (codes "and") ∷ pieces_tokens (conjunction_pieces others) behind)
      ∙ ap (λ (ts : List Token). atom_tokens a (word (codes "and") ∷ ts)) (conjunction_is others behind)

  atom_is : (a : Atom) (behind : List Token) → pieces_tokens (atom_pieces a) behind ≡ atom_tokens a behind
  atom_is (leaf c) behind = refl
  atom_is (group inner) behind =
      ap (λ (ts : List Token). opening ∷ ts) (joined (tree_pieces inner) (piece.closing ∷ []) behind ∙ tree_is inner (closing ∷ behind))

pub one_tree : (a b : Tree) → tree_pieces a ≡ tree_pieces b → a ≡ b
one_tree a b e =
    let tokens : tree_tokens a [] ≡ tree_tokens b [] = sym (tree_is a []) ∙ ap (λ (ps : List PieceValue). pieces_tokens ps []) e ∙ tree_is b [] in
    let x = tree_read_back a in
    let y = tree_read_back b in
    cc
