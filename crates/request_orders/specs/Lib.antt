-- What the theorems about orders of requests speak of, beside the definitions of `model` and `orders`.
pub mod AnyOrder
pub mod StartOrder
pub mod RightsLists
