pub mod HexadecimalLaws
