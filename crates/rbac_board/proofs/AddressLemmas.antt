-- Where the cells of a row are.
use Rattle.std.proofs.Common.{◌≡◌, ◌<◌, ℕ, ◌/◌, ◌%◌, List, length, map, get_or, Some, slice_get, ap, sym, ◌∙◌, arith}
use Rattle.std.proofs.lemmas.List.{get_or-map}
use Rattle.std.proofs.lemmas.List.FromFn.{length-map-range_with_len, get_or-map-range_with_len}
use Rattle.std.proofs.lemmas.Option.{slice_get-get_or}
use Rattle.rbac_board.specs.Address.{Address, address_of, addresses}

pub length-addresses : (blocks : List ℕ) (places : ℕ) → length (addresses blocks places) ≡ places
length-addresses blocks places = length-map-range_with_len (address_of blocks) 0 places

-- the address of a cell, by the cell that holds its block
pub address_at : {C : Type 0} (name : C → ℕ) (holders : List C) (places place : ℕ) (holder : C) → place < places → place / 256 < length holders → holder ≡ get_or holders (place / 256) holder
    → slice_get (addresses (map name holders) places) place ≡ Some (record { block = name holder; place = place % 256 })
address_at name holders places place holder within held here =
    let blocks = map name holders in
    let d = address_of blocks place in
    let there : ℕ → Address = λ n. record { block = n; place = place % 256 } in
    slice_get-get_or (addresses blocks places) place d (omega (arith, length-addresses blocks places, within))
    ∙ ap Some (get_or-map-range_with_len (address_of blocks) 0 places place place d within (omega arith))
    ∙ ap (λ n. Some (there n)) (get_or-map name holders (place / 256) holder 0 held ∙ ap name (sym here))
